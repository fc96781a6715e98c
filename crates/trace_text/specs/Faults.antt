-- What is said of a text that is no template.
use Rattle.std.specs.Prelude.{ℕ, List, ◌++◌, codes}
use Rattle.std.specs.Fmt.{decimal}
use Rattle.tpl_lang.specs.declared.fault.Fault.{Fault}
use Rattle.tpl_lang.specs.declared.fault.Kind.{Kind}
use Rattle.tpl_lang.specs.declared.fault.Kind.TheVariants.{BadByte, Unexpected, NumberTooLarge, UnknownName, DoubleName, NameTwiceInLeaf, EmptyDomain, TooDeep, TooLong, TooMany, BadRam, BadStart}

abbrev pub kind_text : Kind → List ℕ
kind_text BadByte = codes "bad byte"
kind_text Unexpected = codes "unexpected"
kind_text NumberTooLarge = codes "number too large"
kind_text UnknownName = codes "unknown name"
kind_text DoubleName = codes "double name"
kind_text NameTwiceInLeaf = codes "name twice in leaf"
kind_text EmptyDomain = codes "empty domain"
kind_text TooDeep = codes "too deep"
kind_text TooLong = codes "too long"
kind_text TooMany = codes "too many"
kind_text BadRam = codes "bad ram"
kind_text BadStart = codes "bad start"

-- `template line L: TEXT`, in two pieces
unfoldable pub fault_head : ℕ → List ℕ
fault_head line = codes "template line " ++ decimal line ++ codes ": "

unfoldable pub fault_line : ℕ → List ℕ → List ℕ
fault_line line text = fault_head line ++ text ++ codes "\n"

abbrev pub fault_text : Fault → List ℕ
fault_text f = fault_line f.line (kind_text f.kind)
