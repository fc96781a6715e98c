-- Translations, and what follows on them.
use Rattle.std.proofs.Common.{◌≡◌, ℕ, List, ◌++◌, map, sym, ap, ◌∙◌}
use Rattle.rv_script.specs.declared.access.Access.{Access}
use Rattle.rv_script.specs.Script.{Script, access_of}
use Rattle.rv_script.specs.Folds.{Known, Teller, Answer, Answer.Does, and_then, prefixed}
use Rattle.rv_script.proofs.Binds.{bound, prefixed_twice}
use Rattle.sv_walk.specs.declared.entry.Kind.{Kind}
use Rattle.sv_walk.specs.declared.entry.View.{View}
use Rattle.sv_walk.specs.declared.ending.WalkEnd.{WalkEnd}
use Rattle.sv_walk.specs.Clauses.{ended, entry_access}
use Rattle.sv_walk.specs.Translation.{Reached, translated}
use Rattle.rv_hart.specs.declared.record.Change.{Change}
use Rattle.rv_hart.specs.Fixed.{Fixed}
use Rattle.rv_hart.specs.Machine.{arriving, at_address}
use Rattle.rv_hart.specs.Sighted.{answer_seen, told_with}

-- the answer on an address is that on where it leads to
pub reached_by : (sights : Teller) (k : Known) (f : Fixed) (word : ℕ) (v : View) (kind : Kind) (va : ℕ) (entries : List (ℕ × ℕ)) (end : WalkEnd) → ended entries end ≡ answer_seen sights k (translated f.ram v kind va)
    → (next : ℕ → Script Change) → answer_seen sights k (at_address f word v kind va next) ≡ and_then (ended entries end) (λ r. answer_seen sights k (arriving f word va next r))
unfolding at_address
reached_by sights k f word v kind va entries end is next =
    bound access_of (translated f.ram v kind va) (arriving f word va next) (told_with sights k)
    ∙ ap (λ (a : Answer Access Reached). and_then a (λ r. answer_seen sights k (arriving f word va next r))) (sym is)

-- the same with accesses before it, where the entries are put behind them
pub reached_behind : (sights : Teller) (k : Known) (f : Fixed) (word : ℕ) (v : View) (kind : Kind) (va : ℕ) (before after : List Access) (entries : List (ℕ × ℕ)) (end : WalkEnd) → ended entries end ≡ answer_seen sights k (translated f.ram v kind va)
    → after ≡ before ++ map entry_access entries → (r : Reached) → ended entries end ≡ Does (map entry_access entries) r
    → (next : ℕ → Script Change) → prefixed after (answer_seen sights k (arriving f word va next r)) ≡ prefixed before (answer_seen sights k (at_address f word v kind va next))
reached_behind sights k f word v kind va before after entries end is put r led next =
    ap (λ (xs : List Access). prefixed xs (answer_seen sights k (arriving f word va next r))) put
    ∙ sym (prefixed_twice before (map entry_access entries) (answer_seen sights k (arriving f word va next r)))
    ∙ ap (prefixed before) (sym (reached_by sights k f word v kind va entries end is next ∙ ap (λ (a : Answer Access Reached). and_then a (λ s. answer_seen sights k (arriving f word va next s))) led))
