-- The order of candidates, with 0 for the old value of a CSR that is not started.
use Rattle.std.specs.Prelude.{ℕ, ◌↔◌, List}
use Rattle.rv_script.specs.Script.{Label.FromCsr}
use Rattle.rv_script.specs.Folds.{Known, Entry}
use Rattle.tpl_ast.specs.declared.template.Atom.{Atom}
use Rattle.fd_prob.specs.declared.slot.Slot.TheVariants as slots
use Rattle.rv_script.specs.Logs.{labelled, new_value}
use Rattle.leaf_link.specs.Turns.{Turn}
use Rattle.leaf_link.specs.Values.{Values}
use Rattle.leaf_link.specs.Candidates.{IsCandidate}
use Rattle.leaf_link.specs.Ways.{IsFetched}
use Rattle.leaf_link.specs.Problems.{key_of}
use Rattle.leaf_link.specs.Firsts.{Precedes}

-- the values of a candidate, where a known old CSR value counts as 0
abbrev pub started_key : (t : Turn) (leaf : List Atom) (new : Known) → IsCandidate t leaf new → Values
started_key t leaf new w slots.OldCsr = new_value t.known (labelled w.log FromCsr)
started_key t leaf new w s = key_of t leaf new w s

-- whether a known old value stands in the values or 0, the order of candidates is the same
abbrev pub OrderIsKept : Type 0
OrderIsKept =
    (t : Turn) (walk : List Entry) (pa : ℕ) (leaf : List Atom) (draws : List ℕ) → IsFetched t walk pa → (one two : Known) (v : IsCandidate t leaf one) (w : IsCandidate t leaf two)
    → Precedes t pa leaf draws (key_of t leaf one v) (key_of t leaf two w) ↔ Precedes t pa leaf draws (started_key t leaf one v) (started_key t leaf two w)
