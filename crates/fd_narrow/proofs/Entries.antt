-- What tables say of variables.
use Rattle.std.proofs.Common.{◌≡◌, ℕ, ◌==◌, ⊎_elim, not, Bool, true, false, List, [], ◌∷◌, Option, Some, None, IsTrue, length, slice_get, refl, sym, ap, ◌∙◌, subst, arith, eqb-true}
use Rattle.std.specs.List.{filter}
use Rattle.dom_set.specs.Elements.{is_in, is_within}
use Rattle.fd_prob.specs.declared.slot.Slot.{Slot}
use Rattle.fd_prob.specs.Relations.{agrees, is_held, value_of}
use Rattle.fd_narrow.specs.Narrowing.{domain_in}
use Rattle.set_sums.specs.Internal.Spans.{IsOfRanges}
use Rattle.fd_narrow.specs.Internal.Steps.{IsValueIn, IsValueOutside, Leaves}
use Rattle.word_sets.specs.Internal.Tables.{AreListed, AreOthers, AreRefused, is_listed, is_other, is_refused}
use Rattle.fd_narrow.proofs.Compositions.{weakened}
use Rattle.set_sums.proofs.Members.{is_in-filter, joined}
use Rattle.fd_narrow.proofs.Sameness.{none_in}
use Rattle.set_sums.proofs.Spans.{pushed_has, true_or_false}

not_both : (e : Option (Option ℕ)) (values : List ℕ) (v : ℕ) → IsTrue (is_refused values e) → IsTrue (agrees e v) → IsTrue (is_in values v) → ⊥
not_both (Some (Some w)) values v refused held there = cc (ap (is_in values) (eqb-true w v held), refused_out (is_in values w) refused, there) where
  refused_out : (b : Bool) → IsTrue (not b) → b ≡ false
  refused_out true h = absurd (cc h)
  refused_out false h = refl
not_both (Some None) values v refused held there = absurd (cc refused)
not_both None values v refused held there = absurd (cc refused)

pub index_narrows : (a b : List (List ℕ)) (index value : Slot) (table : List (Option ℕ)) (values set : List ℕ) (ranges : List (ℕ × ℕ)) → values ≡ domain_in a value → AreRefused table values ranges → IsOfRanges ranges set → Leaves (IsValueOutside index set) a b → Leaves (λ x. IsTrue (is_held x index value table)) a b
index_narrows a b index value table values set ranges at_value refused is leaves = weakened (IsValueOutside index set) (λ x. IsTrue (is_held x index value table)) a b
    (λ x inside held small. ⊎_elim
    (λ k. absurd (not_both (slice_get table (value_of x index)) values (value_of x value) (refused (value_of x index) (is.within (value_of x index) k)) held (subst (λ (d : List ℕ). IsTrue (is_in d (value_of x value))) (sym at_value) (inside value))))
    (λ k. k)
    (true_or_false (is_in set (value_of x index)))) leaves

-- an entry other than its index is not the variable's own value
not_own : (i : ℕ) (e : Option (Option ℕ)) → IsTrue (is_other i e) → IsTrue (agrees e i) → ⊥
not_own i (Some (Some w)) other held = both (w == i) other held where
  both : (b : Bool) → IsTrue (not b) → IsTrue b → ⊥
  both true h k = cc h
  both false h k = cc k
not_own i (Some None) other held = cc other
not_own i None other held = cc other

pub own_narrows : (a b : List (List ℕ)) (index : Slot) (table : List (Option ℕ)) (set : List ℕ) (ranges : List (ℕ × ℕ)) → AreOthers table ranges → IsOfRanges ranges set → Leaves (IsValueOutside index set) a b → Leaves (λ x. IsTrue (is_held x index index table)) a b
own_narrows a b index table set ranges others is leaves = weakened (IsValueOutside index set) (λ x. IsTrue (is_held x index index table)) a b
    (λ x inside held small. ⊎_elim
    (λ k. absurd (not_own (value_of x index) (slice_get table (value_of x index)) (others (value_of x index) (is.within (value_of x index) k)) held))
    (λ k. k)
    (true_or_false (is_in set (value_of x index)))) leaves

listed_value : (e : Option (Option ℕ)) (values : List (ℕ × ℕ)) (v : ℕ) → IsTrue (is_listed values e) → IsTrue (agrees e v) → IsTrue (is_within values v)
listed_value (Some (Some w)) values v listed held = subst (λ (n : ℕ). IsTrue (is_within values n)) (eqb-true w v held) listed
listed_value (Some None) values v listed held = absurd (cc listed)
listed_value None values v listed held = absurd (cc listed)

-- where nothing is left without it, it has all
all_found : (found set missing : List ℕ) → missing ≡ filter (λ v. not (is_in found v)) set → length missing ≡ 0 → (v : ℕ) → IsTrue (is_in set v) → IsTrue (is_in found v)
all_found found set missing is none v h = ⊎_elim
    (λ k. k)
    (λ k. absurd (cc (none_in missing none v, subst (λ (b : Bool). IsTrue b) (sym (ap (λ (d : List ℕ). is_in d v) is ∙ is_in-filter (λ w. not (is_in found w)) set v)) (joined (not (is_in found v)) (is_in set v) (ap not k) h))))
    (true_or_false (is_in found v))

pub entry_narrows : (a b : List (List ℕ)) (index value : Slot) (table : List (Option ℕ)) (set found missing values : List ℕ) (indices listed : List (ℕ × ℕ)) → set ≡ domain_in a index → AreListed table indices listed → IsOfRanges indices found → missing ≡ filter (λ v. not (is_in found v)) set → length missing ≡ 0 → IsOfRanges listed values → Leaves (IsValueIn value values) a b → Leaves (λ x. IsTrue (is_held x index value table)) a b
entry_narrows a b index value table set found missing values indices listed at_index entries is_found is none is_values leaves = weakened (IsValueIn value values) (λ x. IsTrue (is_held x index value table)) a b
    (λ x inside held small. is_values.all (value_of x value) small (listed_value (slice_get table (value_of x index)) listed (value_of x value) (entries (value_of x index) (is_found.within (value_of x index) (all_found found set missing is none (value_of x index) (subst (λ (d : List ℕ). IsTrue (is_in d (value_of x index))) (sym at_index) (inside index))))) held)) leaves

pub one_narrows : (a b : List (List ℕ)) (s : Slot) (v : ℕ) (one : List ℕ) → IsOfRanges ((v, v) ∷ []) one → Leaves (IsValueIn s one) a b → Leaves (λ x. value_of x s ≡ v) a b
one_narrows a b s v one is leaves = weakened (IsValueIn s one) (λ x. value_of x s ≡ v) a b
    (λ x inside same small. is.all (value_of x s) small (pushed_has [] (v, v) (value_of x s) (omega (arith, same)) (omega (arith, same)))) leaves
