-- How long the file of a certificate is.
use Rattle.std.specs.Prelude.{◌≤◌}
use Rattle.tpl_ast.specs.Limits.{file_limits}
use Rattle.tpl_admit.specs.declared.certificate.Cert.{Cert}
use Rattle.tpl_admit.specs.Sizes.{file_size}
use Rattle.tpl_admit.specs.WellFormed.{IsWellFormedBy}

-- a certificate keeps all limits of a file but that of its bytes: for these any number is allowed, so its own is
abbrev pub IsWithinOtherLimits : Cert → Type 0
IsWithinOtherLimits c = IsWellFormedBy (record file_limits { size = file_size c }) c

-- the limit of a file's bytes follows from the others
abbrev pub FileSizesFollow : Type 0
FileSizesFollow = (c : Cert) → IsWithinOtherLimits c → file_size c ≤ file_limits.size
