use Rattle.std.proofs.Common.{◌≡◌, ◌++◌, string_bytes}
use Rattle.trace_text.proofs.Parts.{first_harts}
use Rattle.trace_text.proofs.harts.push_harts.Given as goal

abbrev pub invariant-loop-hart : goal.invariant-loop-hart
invariant-loop-hart l = string_bytes l.text ≡ string_bytes l.initial.text ++ first_harts l.cert l.hart
