-- The values of sets.
use Rattle.std.specs.Prelude.{ℕ, ◌-◌, ◌%◌, ◌^◌, Bool, not, ◌&&◌, ◌==◌, nat_lt, List, [], ◌∷◌, ◌++◌, map, filter, Option, Some, None, if◌then◌else◌}
use Rattle.std.specs.Option.{unwrap_or}
use Rattle.std.specs.Str.{bytes_eq}
use Rattle.dom_set.specs.Elements.{elements_of, is_within}
use Rattle.rv_isa.specs.declared.operation.TheConstants.{OPS}
use Rattle.rv_isa.specs.Numbers.{op_number_among}
use Rattle.rv_csr.specs.declared.table.Register.{Register}
use Rattle.rv_csr.specs.Table.{address_of}
use Rattle.tpl_lang.specs.declared.phrase.Element.{Element}
use Rattle.tpl_lang.specs.declared.phrase.Element.TheVariants.{One, Range}
use Rattle.tpl_lang.specs.declared.phrase.Numeral.{Numeral}
use Rattle.tpl_lang.specs.declared.phrase.OutcomeElement.{OutcomeElement}
use Rattle.tpl_lang.specs.declared.phrase.OutcomeElement.TheVariants.{Retire, Cause}
use Rattle.tpl_ast.specs.declared.template.Var.{Var}
use Rattle.tpl_ast.specs.declared.template.Var.TheVariants as vars
use Rattle.tpl_lang.specs.Phrases.{SetPhrase, Named, Listed, Domain, Numbers, Words, Outcomes}
use Rattle.tpl_lang.specs.Words.{csr_of}

abbrev pub number : Numeral → ℕ
number n = unwrap_or n.value 0

-- a range wraps round where LO has a minus, HI has none, and LO is above HI
abbrev pub wraps : Numeral → Numeral → Bool
wraps lo hi = lo.minus && (not hi.minus && nat_lt (number hi) (number lo))

-- a lowest and a highest number each; a range whose lowest is above its highest is empty
abbrev pub ranges_in : Element → List (ℕ × ℕ)
ranges_in (One n) = (number n, number n) ∷ []
ranges_in (Range lo hi) = if wraps lo hi then (number lo, 2 ^ 32 - 1) ∷ (0, number hi) ∷ [] else (number lo, number hi) ∷ []

abbrev pub ranges_of : List Element → List (ℕ × ℕ)
ranges_of [] = []
ranges_of (e ∷ es) = ranges_in e ++ ranges_of es

-- the multiples of a number in ranges
abbrev pub listed : List (ℕ × ℕ) → ℕ → List ℕ
listed ranges align = elements_of (λ x. x % align == 0 && is_within ranges x)

abbrev pub align_in : Option Numeral → ℕ
align_in None = 1
align_in (Some n) = number n

-- a declared set: its name and its elements
abbrev pub NamedSet : Type 0
NamedSet = List ℕ × List ℕ

abbrev pub find_set : List NamedSet → List ℕ → Option NamedSet
find_set [] name = None
find_set (s ∷ ss) name = if bytes_eq s.0 name then Some s else find_set ss name

abbrev pub elements_in : Option NamedSet → List ℕ
elements_in None = []
elements_in (Some s) = s.1

-- the elements of a set
abbrev pub resolved : List NamedSet → SetPhrase → List ℕ
resolved sets (Named name) = elements_in (find_set sets name)
resolved sets (Listed es align) = listed (ranges_of es) (align_in align)

-- single numbers as ranges
abbrev pub points : List ℕ → List (ℕ × ℕ)
points ns = map (λ n. (n, n)) ns

abbrev pub address_in : Option Register → ℕ
address_in None = 0
address_in (Some r) = address_of r

-- the number of the row of an operation, or the address of a CSR
abbrev pub word_number : Var → List ℕ → ℕ
word_number vars.Op word = op_number_among word OPS
word_number _ word = address_in (csr_of word)

-- retire is 255
abbrev pub outcome_number : OutcomeElement → ℕ
outcome_number Retire = 255
outcome_number (Cause n) = number n

abbrev pub domain_of : List NamedSet → Var → Domain → List ℕ
domain_of sets v (Numbers s) = resolved sets s
domain_of sets v (Words ws) = listed (points (map (word_number v) ws)) 1
domain_of sets v (Outcomes os) = listed (points (map outcome_number os)) 1

-- the values of a set that are addresses of instructions
abbrev pub fours : List ℕ → List ℕ
fours ns = filter (λ n. n % 4 == 0) ns
