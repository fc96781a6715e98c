-- First cases of operations.
use Rattle.std.proofs.Common.{◌≡◌, ℕ, ◌+◌, ◌<◌, ◌≤◌, Bool, true, false, ◌==◌, eqb-true, List, [], ◌∷◌, ◌++◌, Some, None, refl, sym, ap, ◌∙◌, subst, arith, All, drop, get_or, length, suc, append_assoc, find, inl, inr}
use Rattle.std.specs.Prelude.{cond}
use Rattle.std.proofs.Math.Seq.{drop-cons}
use Rattle.std.proofs.lemmas.Bool.{cases_Bool, eq-eqb}
use Rattle.std.proofs.lemmas.List.{append-nil, drop_all}
use Rattle.std.proofs.lemmas.List.Elements.{All-head, All-tail}
use Rattle.rv_isa.specs.declared.operation.Op.{Op}
use Rattle.rv_script.specs.Lists.{HasItem}
use Rattle.tpl_ast.specs.declared.template.Atom.{Atom}
use Rattle.fd_prob.specs.declared.problem.Case.{Case as ACase}
use Rattle.fd_prob.specs.Fitting.{IsCase}
use Rattle.rv_isa.specs.Numbers.{op_number}
use Rattle.leaf_stand.specs.declared.shape.Shape.{Shape}
use Rattle.leaf_pose.specs.declared.shaped.Shaped.{Shaped}
use Rattle.leaf_stand.specs.declared.stand.Stand.{Stand}
use Rattle.leaf_pose.specs.Posed.{IsAllowedCase}
use Rattle.leaf_stand.specs.Posed.{allows}
use Rattle.leaf_pose.specs.Internal.Firsts.{AddsFirsts, AreFirstCases, HasFirst, IsNothing}
use Rattle.leaf_stand.specs.Internal.FirstCases.{IsFirstCase}
use Rattle.leaf_link.proofs.Numbers.{same_op}
use Rattle.leaf_pose.proofs.Steps.{allowed_case, none_fits, nothing_added, nothing_fits, one_added, then_adds}
use Rattle.leaf_stand.proofs.Fits.{none_yet}

-- ONE OPERATION
pub no_first : (s : Stand) (leaf : List Atom) (op : Op) (old : Shaped) → allows s leaf op ≡ false → AddsFirsts s leaf (op ∷ []) old old
no_first s leaf op old n = record {
  adds = nothing_added s leaf old [] none_yet;
  firsts = [];
  are = subst (λ (b : Bool). HasFirst s leaf op b IsNothing []) (sym n) refl;
  is = sym (append-nil old.cases);
}

pub one_first : (s : Stand) (leaf : List Atom) (op : Op) (old new : Shaped) (c : ACase) (shape : Shape) → allows s leaf op ≡ true → new.cases ≡ old.cases ++ c ∷ [] → new.shapes ≡ old.shapes ++ shape ∷ []
    → IsCase c → IsFirstCase s leaf op c → AddsFirsts s leaf (op ∷ []) old new
one_first s leaf op old new c shape a e r is first = record {
  adds = one_added s leaf old new c shape [] e r is (λ x hx f. absurd (nothing_fits c first.rels x f)) (allowed_case s leaf op c first.number a) (none_fits c (nothing_fits c first.rels));
  firsts = c ∷ [];
  are = subst (λ (b : Bool). HasFirst s leaf op b IsNothing (c ∷ [])) (sym a) (first, refl);
  is = e;
}

-- ALL OPERATIONS
both_firsts : (s : Stand) (leaf : List Atom) (op : Op) (b : Bool) (Rest : List ACase → Type 0) (cs ds : List ACase) → HasFirst s leaf op b IsNothing cs → Rest ds → HasFirst s leaf op b Rest (cs ++ ds)
both_firsts s leaf op false Rest cs ds h k = subst Rest (sym (ap (λ (l : List ACase). l ++ ds) h)) k
both_firsts s leaf op true Rest [] ds h k = absurd h
both_firsts s leaf op true Rest (c ∷ cs) ds h k = (h.0, subst Rest (sym (ap (λ (l : List ACase). l ++ ds) h.1)) k)

pub next_first : (s : Stand) (leaf : List Atom) (ops : List Op) (i : ℕ) (d : Op) (a b end : Shaped) → i < length ops → AddsFirsts s leaf (get_or ops i d ∷ []) a b → AddsFirsts s leaf (drop (i + 1) ops) b end
    → AddsFirsts s leaf (drop i ops) a end
next_first s leaf ops i d a b end lt h k =
    let n : i + 1 ≡ suc i = omega arith in
    let e : drop i ops ≡ get_or ops i d ∷ drop (i + 1) ops = drop-cons ops i d lt ∙ ap (λ (m : ℕ). get_or ops i d ∷ drop m ops) (sym n) in
    subst (λ (l : List Op). AddsFirsts s leaf l a end) (sym e) (record {
      adds = then_adds s leaf a b end [] [] h.adds k.adds;
      firsts = h.firsts ++ k.firsts;
      are = both_firsts s leaf (get_or ops i d) (allows s leaf (get_or ops i d)) (AreFirstCases s leaf (drop (i + 1) ops)) h.firsts k.firsts h.are k.are;
      is = k.is ∙ ap (λ (l : List ACase). l ++ k.firsts) h.is ∙ append_assoc a.cases h.firsts k.firsts;
    })

pub no_firsts : (s : Stand) (leaf : List Atom) (ops : List Op) (i : ℕ) (a : Shaped) → length ops ≤ i → AddsFirsts s leaf (drop i ops) a a
no_firsts s leaf ops i a le = subst (λ (l : List Op). AddsFirsts s leaf l a a) (sym (drop_all i ops le)) (record {
  adds = nothing_added s leaf a [] none_yet;
  firsts = [];
  are = refl;
  is = sym (append-nil a.cases);
})

-- THE FIRST CASE OF AN OPERATION IS FOUND
pub record FindsFirst (s : Stand) (leaf : List Atom) (op : Op) (cs : List ACase) : Type 0 where
  pub case_is : ACase
  pub found : find (λ c. c.op == op_number op) cs ≡ Some case_is
  pub first : IsFirstCase s leaf op case_is

pub found_here : (test : ACase → Bool) (c : ACase) (cs : List ACase) → test c ≡ true → find test (c ∷ cs) ≡ Some c
found_here test c cs h = ap (λ (b : Bool). cond b (Some c) (find test cs)) h

found_later : (test : ACase → Bool) (c : ACase) (cs : List ACase) → test c ≡ false → find test (c ∷ cs) ≡ find test cs
found_later test c cs h = ap (λ (b : Bool). cond b (Some c) (find test cs)) h

pub none_found : (s : Stand) (leaf : List Atom) (op : Op) (cs : List ACase) → All (IsAllowedCase s leaf) cs → allows s leaf op ≡ false → find (λ c. c.op == op_number op) cs ≡ None
none_found s leaf op [] all n = refl
none_found s leaf op (c ∷ cs) all n = elim (cases_Bool (c.op == op_number op)) [
  | inl y ↦ let a : allows s leaf op ≡ true = All-head (IsAllowedCase s leaf) c cs all op (sym (eqb-true c.op (op_number op) y)) in absurd (cc)
  | inr m ↦ found_later (λ d. d.op == op_number op) c cs m ∙ none_found s leaf op cs (All-tail (IsAllowedCase s leaf) c cs all) n
]

-- the head is of another operation
after_first : (s : Stand) (leaf : List Atom) (op : Op) (c : ACase) (cs : List ACase) → (c.op == op_number op) ≡ false → FindsFirst s leaf op cs → FindsFirst s leaf op (c ∷ cs)
after_first s leaf op c cs n h = record { case_is = h.case_is; found = found_later (λ d. d.op == op_number op) c cs n ∙ h.found; first = h.first }

first_or_later : (s : Stand) (leaf : List Atom) (op head : Op) (b : Bool) (Rest : List ACase → Type 0) (cs rest : List ACase) → allows s leaf head ≡ b → HasFirst s leaf head b Rest cs → allows s leaf op ≡ true
    → ((head ≡ op → ⊥) → (ds : List ACase) → Rest ds → FindsFirst s leaf op (ds ++ rest)) → FindsFirst s leaf op (cs ++ rest)
first_or_later s leaf op head false Rest cs rest e h a later = later (λ same. let q : allows s leaf head ≡ true = ap (λ (o : Op). allows s leaf o) same ∙ a in absurd (cc)) cs h
first_or_later s leaf op head true Rest [] rest e h a later = absurd h
first_or_later s leaf op head true Rest (c ∷ cs) rest e h a later = elim (cases_Bool (c.op == op_number op)) [
  | inl y ↦
      let same : head ≡ op = same_op head op (sym h.0.number ∙ eqb-true c.op (op_number op) y) in
      record { case_is = c; found = found_here (λ d. d.op == op_number op) c (cs ++ rest) y; first = subst (λ (o : Op). IsFirstCase s leaf o c) same h.0 }
  | inr n ↦ after_first s leaf op c (cs ++ rest) n (later (λ same. let q : (c.op == op_number op) ≡ true = eq-eqb c.op (op_number op) (h.0.number ∙ ap op_number same) in absurd (cc)) cs h.1)
]

pub first_found : (s : Stand) (leaf : List Atom) (ops : List Op) (op : Op) (cs rest : List ACase) → AreFirstCases s leaf ops cs → HasItem ops op → allows s leaf op ≡ true → FindsFirst s leaf op (cs ++ rest)
first_found s leaf [] op cs rest h i a = absurd i
first_found s leaf (head ∷ ops) op cs rest h i a =
    first_or_later s leaf op head (allows s leaf head) (AreFirstCases s leaf ops) cs rest refl h a
    (λ other ds k. first_found s leaf ops op ds rest k (elim i [ inl same ↦ absurd (other same) | inr j ↦ j ]) a)
