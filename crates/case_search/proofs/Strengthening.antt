-- Where one register has one value and both registers are the same, so are their values.
use Rattle.std.proofs.Common.{◌≡◌, ◌==◌, ℕ, Bool, true, false, not, ◌&&◌, ◌||◌, List, [], ◌∷◌, ◌++◌, refl, sym, ap, ◌∙◌, eqb-true, slice_index, IsTrue}
use Rattle.std.specs.List.{list_all, list_any}
use Rattle.std.proofs.Math.Bool.{or-true}
use Rattle.std.proofs.lemmas.Bool.{and_parts, and_right, eq-eqb, false≢true}
use Rattle.std.proofs.lemmas.List.Folds.{list_any-append}
use Rattle.std.proofs.lemmas.List.Sums.{AllPass-from_list_all, list_all-from_AllPass}
use Rattle.rv_isa.specs.declared.operation.Op.{Op}
use Rattle.fd_narrow.specs.Narrowing.{AllHold}
use Rattle.fd_prob.specs.declared.problem.Assignment.{Assignment}
use Rattle.fd_prob.specs.declared.relation.Rel.{Rel}
use Rattle.fd_prob.specs.declared.relation.Rel.TheVariants.{Same, Linked}
use Rattle.fd_prob.specs.declared.slot.Slot.{Slot}
use Rattle.fd_prob.specs.declared.slot.Slot.TheVariants as slots
use Rattle.fd_prob.specs.Relations.{holds, is_linked, is_same}
use Rattle.fd_prob.specs.Slots.{slot_number}
use Rattle.case_search.specs.Internal.Stronger.{AreAlike, equates, is_link, lacks_value}
use Rattle.case_search.proofs.JoinedTargets.{all_with}

-- where all hold and some is of a kind, what each of the kind tells is so
told : (kind held : Rel → Bool) (b : Bool) → ((r : Rel) → kind r ≡ true → held r ≡ true → b ≡ true) → (rels : List Rel) → list_any kind rels ≡ true → list_all held rels ≡ true → b ≡ true
told kind held b tells [] some all = absurd (cc some)
told kind held b tells (r ∷ rels) some all = either (kind r) (held r) refl refl (told kind held b tells rels)
  where
    either : (k h : Bool) → kind r ≡ k → held r ≡ h → (list_any kind rels ≡ true → list_all held rels ≡ true → b ≡ true) → b ≡ true
    either k false k_is h_is rest = absurd (false≢true (sym (ap (λ (p : Bool). p && list_all held rels) h_is) ∙ all))
    either true true k_is h_is rest = tells r k_is h_is
    either false true k_is h_is rest = rest (sym (ap (λ (p : Bool). p || list_any kind rels) k_is) ∙ some) (sym (ap (λ (p : Bool). p && list_all held rels) h_is) ∙ all)

link_tells : (op : Op) (x : Assignment) (r : Rel) → is_link r ≡ true → holds op x r ≡ true → is_linked x ≡ true
link_tells op x Linked is held = held
link_tells op x _ is held = absurd (cc is)

-- two numbers are the two, in either order
paired : (f : ℕ → ℕ) (a b s t : ℕ) → ((a == s && b == t) || (a == t && b == s)) ≡ true → (f a == f b) ≡ true → (f s == f t) ≡ true
paired f a b s t pair same = either (a == s && b == t) refl
  where
    ab : f a ≡ f b
    ab = eqb-true (f a) (f b) same

    either : (k : Bool) → (a == s && b == t) ≡ k → (f s == f t) ≡ true
    either true is =
        let both = and_parts (a == s) (b == t) is in
        eq-eqb (f s) (f t) (ap f (sym (eqb-true a s both.0)) ∙ ab ∙ ap f (eqb-true b t both.1))
    either false is =
        let both = and_parts (a == t) (b == s) (sym (ap (λ (p : Bool). p || (a == t && b == s)) is) ∙ pair) in
        eq-eqb (f s) (f t) (ap f (sym (eqb-true b s both.1)) ∙ sym ab ∙ ap f (eqb-true a t both.0))

pair_tells : (op : Op) (x : Assignment) (s t : Slot) (r : Rel) → equates s t r ≡ true → holds op x r ≡ true → is_same x s t ≡ true
pair_tells op x s t (Same a b) is held = paired (λ (n : ℕ). slice_index x.values n) (slot_number a) (slot_number b) (slot_number s) (slot_number t) is held
pair_tells op x s t _ is held = absurd (cc is)

linked_values : (x : Assignment) → is_linked x ≡ true → is_same x slots.Rs1 slots.Rs2 ≡ true → is_same x slots.A slots.B ≡ true
linked_values x linked same = sym (ap (λ (p : Bool). not p || is_same x slots.A slots.B) same) ∙ linked

-- the values are the same where all hold, since one register has one value and the registers are said to be the same
pub lacking_same : (rels : List Rel) → lacks_value rels ≡ true → (op : Op) (x : Assignment) → AllHold op rels x → IsTrue (is_same x slots.A slots.B)
lacking_same rels lacks op x hold = linked_values x linked same
  where
    both : (list_any is_link rels ≡ true) × (list_any (equates slots.Rs1 slots.Rs2) rels ≡ true)
    both = and_parts (list_any is_link rels) (list_any (equates slots.Rs1 slots.Rs2) rels) (and_parts (list_any is_link rels && list_any (equates slots.Rs1 slots.Rs2) rels) (not (list_any (equates slots.A slots.B) rels)) lacks).0

    all : list_all (holds op x) rels ≡ true
    all = list_all-from_AllPass (holds op x) rels hold

    linked : is_linked x ≡ true
    linked = told is_link (holds op x) (is_linked x) (link_tells op x) rels both.0 all

    same : is_same x slots.Rs1 slots.Rs2 ≡ true
    same = told (equates slots.Rs1 slots.Rs2) (holds op x) (is_same x slots.Rs1 slots.Rs2) (pair_tells op x slots.Rs1 slots.Rs2) rels both.1 all

-- the same, where the registers are of one class
pub linked_same : (rels : List Rel) → list_any is_link rels ≡ true → ((op : Op) (x : Assignment) → AllHold op rels x → IsTrue (is_same x slots.Rs1 slots.Rs2)) → (op : Op) (x : Assignment) → AllHold op rels x → IsTrue (is_same x slots.A slots.B)
linked_same rels some one op x hold = linked_values x (told is_link (holds op x) (is_linked x) (link_tells op x) rels some (list_all-from_AllPass (holds op x) rels hold)) (one op x hold)

-- the relation between the values that is added holds wherever all the others do
pub with_values : (rels before made : List Rel) → AreAlike rels before → ((op : Op) (x : Assignment) → AllHold op before x → IsTrue (is_same x slots.A slots.B)) → made ≡ before ++ Same slots.A slots.B ∷ [] → AreAlike rels made
with_values rels before made alike same is op x = all_with op x before made (Same slots.A slots.B) is ∙ either (list_all (holds op x) before) refl ∙ alike op x
  where
    either : (h : Bool) → list_all (holds op x) before ≡ h → (list_all (holds op x) before && is_same x slots.A slots.B) ≡ list_all (holds op x) before
    either false h_is = ap (λ (p : Bool). p && is_same x slots.A slots.B) h_is ∙ sym h_is
    either true h_is = ap (λ (p : Bool). p && is_same x slots.A slots.B) h_is ∙ same op x (AllPass-from_list_all (holds op x) before h_is) ∙ sym h_is

-- then one says that the values are the same
pub no_more_lacks : (before made : List Rel) → made ≡ before ++ Same slots.A slots.B ∷ [] → lacks_value made ≡ false
no_more_lacks before made is = and_right (list_any is_link made && list_any (equates slots.Rs1 slots.Rs2) made) (not (list_any (equates slots.A slots.B) made)) (ap not said)
  where
    said : list_any (equates slots.A slots.B) made ≡ true
    said = ap (list_any (equates slots.A slots.B)) is ∙ list_any-append (equates slots.A slots.B) before (Same slots.A slots.B ∷ []) ∙ or-true (list_any (equates slots.A slots.B) before)
