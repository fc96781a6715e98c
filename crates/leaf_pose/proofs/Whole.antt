-- The problem of a leaf, whole.
use Rattle.std.proofs.Common.{◌≡◌, ℕ, zero, suc, ◌<◌, ◌^◌, Bool, true, false, ◌&&◌, ◌==◌, List, [], ◌∷◌, ◌++◌, Option, Some, None, refl, sym, ap, ◌∙◌, subst, inl, inr, arith, lit<, All, find, get_or, length}
use Rattle.std.specs.Prelude.{not, IfSome, if◌then◌else◌, nat_eq, slice_index_or, ◌||◌}
use Rattle.std.specs.Option.{is_some}
use Rattle.data_goals.specs.declared.accesses.Accesses.{Accesses}
use Rattle.data_goals.specs.Grounds.{HasAccesses}
use Rattle.std.specs.List.{list_all}
use Rattle.std.proofs.lemmas.Bool.{and_parts, cases_Bool}
use Rattle.std.proofs.lemmas.Bool.Decides.{nat_tests}
use Rattle.dom_set.specs.Elements.{is_in}
use Rattle.rv_isa.specs.declared.instruction.Instr.{Instr}
use Rattle.rv_isa.specs.declared.operation.Op.{Op}
use Rattle.rv_isa.specs.declared.operation.Op.TheVariants as ops
use Rattle.rv_isa.specs.declared.operation.TheConstants.{OPS}
use Rattle.rv_isa.specs.Reading.{decoded}
use Rattle.rv_isa.specs.Table.{row_of}
use Rattle.rv_script.specs.declared.place.Place.TheVariants.{Word}
use Rattle.rv_script.specs.Folds.{Entry}
use Rattle.rv_script.specs.Lists.{HasItem}
use Rattle.sv_walk.specs.Translation.{is_translated}
use Rattle.rv_hart.specs.Machine.{data_view}
use Rattle.tpl_ast.specs.declared.template.Atom.{Atom}
use Rattle.tpl_ast.specs.declared.template.Var.{Var}
use Rattle.tpl_ast.specs.declared.template.Var.TheVariants as vars
use Rattle.fd_prob.specs.declared.problem.Case.{Case as ACase}
use Rattle.fd_prob.specs.declared.slot.Slot.{Slot}
use Rattle.fd_prob.specs.declared.slot.Slot.TheVariants as slots
use Rattle.fd_prob.specs.Fitting.{IsCase, domain_of}
use Rattle.rv_isa.proofs.Numbers.{read, small}
use Rattle.rv_isa.specs.Numbers.{op_numbered, op_number}
use Rattle.fd_prob.specs.Slots.{slot_number}
use Rattle.leaf_link.specs.Turns.{Turn, is_first_form, is_second_form}
use Rattle.rv_isa.specs.Fields.{has_address}
use Rattle.leaf_link.specs.Cases.{all_tests, in_read, or_no}
use Rattle.leaf_link.specs.Firsts.{IsDomain, IsFirst, IsFirstOf, first_domain, has_walk, in_first_word, is_allowed}
use Rattle.leaf_stand.specs.declared.shape.Shape.{Shape}
use Rattle.leaf_pose.specs.declared.shaped.Shaped.{Shaped}
use Rattle.leaf_stand.specs.declared.stand.Stand.{Stand}
use Rattle.leaf_pose.specs.Internal.Firsts.{AddsFirsts, AreFirstCases}
use Rattle.leaf_stand.specs.Internal.FirstCases.{IsFirstCase, first_at, first_entries, first_entry}
use Rattle.data_bytes.specs.Sets.{IsSetOf}
use Rattle.leaf_stand.specs.Kinds.{kind_of}
use Rattle.leaf_pose.specs.Posed.{Adds, AreShaped, IsAllowedCase}
use Rattle.leaf_stand.specs.Posed.{FitsSame, all_cases, allows, are_posable, has_accesses, is_data, is_posable, is_read_as, reads_as}
use Rattle.leaf_pose.specs.Problems.{ArePivots, PosesLeaf}
use Rattle.leaf_stand.specs.Stands.{IsStandOf, turn_of}
use Rattle.leaf_pose.proofs.Leading.{FindsFirst, first_found, none_found}
use Rattle.leaf_stand.proofs.Lists.{each_domain}
use Rattle.leaf_stand.proofs.Rows.{built_address, data_address}
use Rattle.leaf_pose.proofs.Shapes.{nothing}
use Rattle.leaf_stand.proofs.Single.{both_same, domain_in_case}
use Rattle.leaf_stand.proofs.Fits.{none_yet}
use Rattle.leaf_stand.proofs.Fits.{posable_where}
use Rattle.leaf_stand.proofs.Turning.{AreGoals, all_same, every_turn}

-- DRAWS
pub pivots_are : (draws : List ℕ) → ArePivots draws (get_or draws 2 0 ∷ get_or draws 3 0 ∷ get_or draws 4 0 ∷ get_or draws 5 0 ∷ get_or draws 6 0 ∷ get_or draws 7 0 ∷ get_or draws 8 0 ∷ get_or draws 9 0 ∷ get_or draws 10 0 ∷ get_or draws 11 0 ∷ get_or draws 12 0 ∷ get_or draws 13 0 ∷ get_or draws 14 0 ∷ get_or draws 15 0 ∷ [])
pivots_are draws slots.Op = refl
pivots_are draws slots.Rs1 = refl
pivots_are draws slots.Rs2 = refl
pivots_are draws slots.Imm = refl
pivots_are draws slots.Rd = refl
pivots_are draws slots.Csr = refl
pivots_are draws slots.Ea = refl
pivots_are draws slots.A = refl
pivots_are draws slots.B = refl
pivots_are draws slots.FirstPte = refl
pivots_are draws slots.SecondPte = refl
pivots_are draws slots.DataWord = refl
pivots_are draws slots.OldCsr = refl
pivots_are draws slots.Vector = refl

-- THE DOMAINS OF FIRST CASES
first_field : (s : Stand) (t : Turn) (walk : List Entry) (pa : ℕ) → IsStandOf s t walk pa → (leaf : List Atom) (op : Op) (slot : Slot) (u : Var) (v : ℕ)
    → (in_first_word (t.known (Word pa)) op slot v && all_tests t leaf u v) ≡ (in_first_word s.word op slot v && all_tests (turn_of s) leaf u v)
first_field s t walk pa h leaf op slot u v =
    both_same _ _ _ _ (ap (λ (o : Option ℕ). in_first_word o op slot v) h.word) (all_same s t walk pa h leaf u v)

zero_alone : (b inside : Bool) (v : ℕ) → b ≡ false → or_no b inside v ≡ nat_eq v 0
zero_alone b inside v h = ap (λ (c : Bool). or_no c inside v) h

pass_walk : (t : Turn) (op : Op) → has_address (row_of op) ≡ true → has_walk t op ≡ is_translated (data_view t.fixed)
pass_walk t op h = ap (λ (b : Bool). b && is_translated (data_view t.fixed)) h

-- the entries that a step of the operation may start are those that it is told
entries_same : (s : Stand) (t : Turn) (walk : List Entry) (pa : ℕ) → IsStandOf s t walk pa → (leaf : List Atom) (op : Op) → is_posable s leaf op ≡ true → allows s leaf op ≡ true → (of : Accesses → List ℕ) (form : ℕ → Bool)
    → ((a : Accesses) → HasAccesses t walk pa a → IsSetOf (λ v. or_no (is_translated (data_view t.fixed)) (form v) v) (of a)) → (v : ℕ) → v < 2 ^ 32 → or_no (has_walk t op) (form v) v ≡ first_entries s op of v
entries_same s t walk pa h leaf op p allowed of form told v small = of_kind (is_data (kind_of op)) refl (posable_where s leaf op p allowed)
  where
    of_told : (o : Option Accesses) → IfSome o (HasAccesses t walk pa) → is_some o ≡ true → or_no (is_translated (data_view t.fixed)) (form v) v ≡ first_entry of o v
    of_told None is some = absurd (cc some)
    of_told (Some a) is some = sym (told a is v small)

    of_kind : (b : Bool) → is_data (kind_of op) ≡ b → (not (is_data (kind_of op)) || has_accesses s) ≡ true → or_no (has_walk t op) (form v) v ≡ first_entries s op of v
    of_kind true n k =
        let address : has_address (row_of op) ≡ true = data_address op n in
        ap (λ (b : Bool). or_no b (form v) v) (pass_walk t op address) ∙ of_told s.accesses h.accesses (subst (λ (d : Bool). (not d || has_accesses s) ≡ true) n k)
        ∙ ap (λ (b : Bool). if b then first_entry of s.accesses v else nat_eq v 0) (sym address)
    of_kind false n k =
        let none : has_address (row_of op) ≡ false = built_address op n in
        zero_alone (has_walk t op) (form v) v (ap (λ (b : Bool). b && is_translated (data_view t.fixed)) none) ∙ ap (λ (b : Bool). if b then first_entry of s.accesses v else nat_eq v 0) (sym none)

first_same : (s : Stand) (t : Turn) (walk : List Entry) (pa : ℕ) → IsStandOf s t walk pa → (leaf : List Atom) (op : Op) → is_posable s leaf op ≡ true → allows s leaf op ≡ true → (slot : Slot) (v : ℕ) → v < 2 ^ 32 → first_domain t pa leaf op slot v ≡ first_at s leaf op slot v
first_same s t walk pa h leaf op p a slots.Op v small = first_field s t walk pa h leaf op slots.Op vars.Op v
first_same s t walk pa h leaf op p a slots.Rs1 v small = first_field s t walk pa h leaf op slots.Rs1 vars.Rs1 v
first_same s t walk pa h leaf op p a slots.Rs2 v small = first_field s t walk pa h leaf op slots.Rs2 vars.Rs2 v
first_same s t walk pa h leaf op p a slots.Imm v small = first_field s t walk pa h leaf op slots.Imm vars.Imm v
first_same s t walk pa h leaf op p a slots.Rd v small = first_field s t walk pa h leaf op slots.Rd vars.Rd v
first_same s t walk pa h leaf op p a slots.Csr v small = first_field s t walk pa h leaf op slots.Csr vars.Csr v
first_same s t walk pa h leaf op p a slots.Ea v small = both_same _ _ _ _ refl (all_same s t walk pa h leaf vars.Ea v)
first_same s t walk pa h leaf op p a slots.A v small = both_same _ _ _ _ refl (all_same s t walk pa h leaf vars.A v)
first_same s t walk pa h leaf op p a slots.B v small = both_same _ _ _ _ refl (all_same s t walk pa h leaf vars.B v)
first_same s t walk pa h leaf op p a slots.FirstPte v small = entries_same s t walk pa h leaf op p a (λ r. r.firsts) (is_first_form t) (λ r has. has.firsts) v small
first_same s t walk pa h leaf op p a slots.SecondPte v small = entries_same s t walk pa h leaf op p a (λ r. r.seconds) (is_second_form t) (λ r has. has.seconds) v small
first_same s t walk pa h leaf op p a slots.DataWord v small = refl
first_same s t walk pa h leaf op p a slots.OldCsr v small = refl
first_same s t walk pa h leaf op p a slots.Vector v small = ap (λ (l : List ℕ). is_in l v) h.vectors

-- an operation that is allowed is so at every turn
eq_self : (n : ℕ) → nat_eq n n ≡ true
eq_self n = grind (arith, nat_tests)

read_same : (o : Option Instr) (op : Op) → in_read o slots.Op (op_number op) ≡ is_read_as o op
read_same None op = refl
read_same (Some i) op = refl

first_reads : (o : Option ℕ) (op : Op) → in_first_word o op slots.Op (op_number op) ≡ reads_as o op
first_reads None op = eq_self (op_number op)
first_reads (Some w) op = read_same (decoded w) op

allowed_same : (s : Stand) (t : Turn) (walk : List Entry) (pa : ℕ) → IsStandOf s t walk pa → (leaf : List Atom) (op : Op) → is_allowed t pa leaf op ≡ allows s leaf op
allowed_same s t walk pa h leaf op =
    both_same _ _ _ _ (ap (λ (o : Option ℕ). in_first_word o op slots.Op (op_number op)) h.word ∙ first_reads s.word op) (all_same s t walk pa h leaf vars.Op (op_number op))

number_small : (op : Op) → op_number op < 2 ^ 32
unfolding op_number
number_small ops.Lui = lit< tt
number_small _ = lit< tt

is_first : (s : Stand) (t : Turn) (walk : List Entry) (pa : ℕ) → IsStandOf s t walk pa → (leaf : List Atom) (op : Op) (c : ACase) → is_posable s leaf op ≡ true → allows s leaf op ≡ true → IsFirstCase s leaf op c → IsFirst t pa leaf op c
is_first s t walk pa h leaf op c p a first = record {
  allowed = let d = of_slot slots.Op in d.same (op_number op) (number_small op);
  domains = λ allowed slot pos. of_slot slot;
}
  where
    of_slot : (slot : Slot) → IsDomain (domain_of c slot) (first_domain t pa leaf op slot)
    of_slot slot =
        let d = each_domain (λ r set. IsDomain set (first_at s leaf op r)) c.doms first.domains slot in
        let e : domain_of c slot ≡ slice_index_or c.doms (slot_number slot) [] = domain_in_case c slot in
        record {
          members = d.members;
          is_set = e ∙ d.is_set;
          same = λ v small. ap (λ (l : List ℕ). is_in l v) e ∙ d.same v small ∙ sym (first_same s t walk pa h leaf op p a slot v small);
        }

-- every operation is in the list
has_at : (xs : List Op) (n : ℕ) (d : Op) → n < length xs → HasItem xs (slice_index_or xs n d)
has_at [] n d lt = absurd (omega (arith, lt))
has_at (x ∷ xs) zero d lt = inl refl
has_at (x ∷ xs) (suc n) d lt = inr (has_at xs n d (omega (arith, lt)))

pub every_op : (op : Op) → HasItem OPS op
unfolding op_numbered
every_op op = subst (λ (o : Op). HasItem OPS o) (read op) (has_at OPS (op_number op) ops.Illegal (small op))

-- THE PROBLEM
start_gone : (old firsts rest new : List ACase) → old ≡ [] → new ≡ (old ++ firsts) ++ rest → new ≡ firsts ++ rest
start_gone old firsts rest new n e = e ∙ ap (λ (l : List ACase). (l ++ firsts) ++ rest) n

pub whole_shaped : (s : Stand) (leaf : List Atom) (start firsts end : Shaped) → start.cases ≡ [] → start.shapes ≡ [] → AddsFirsts s leaf OPS start firsts → Adds s leaf firsts end (all_cases s leaf OPS) → AreShaped s leaf end.shapes end.cases
whole_shaped s leaf start firsts end n m h k =
    k.shaped (h.adds.shaped (subst (λ (l : List ACase). AreShaped s leaf start.shapes l) (sym n) (subst (λ (l : List Shape). AreShaped s leaf l []) (sym m) (record {}))))

firsts_found : (s : Stand) (t : Turn) (walk : List Entry) (pa : ℕ) → IsStandOf s t walk pa → (leaf : List Atom) (cs firsts rest : List ACase) → are_posable s leaf ≡ true → cs ≡ firsts ++ rest → AreFirstCases s leaf OPS firsts
    → All (IsAllowedCase s leaf) cs → (op : Op) → IsFirstOf t pa leaf op (find (λ c. c.op == op_number op) cs)
firsts_found s t walk pa h leaf cs firsts rest p e are all op = elim (cases_Bool (allows s leaf op)) [
  | inl a ↦
      let f : FindsFirst s leaf op cs = subst (λ (l : List ACase). FindsFirst s leaf op l) (sym e) (first_found s leaf OPS op firsts rest are (every_op op) a) in
      let posable : is_posable s leaf op ≡ true = test_in (is_posable s leaf) OPS op (every_op op) p in
      subst (λ (o : Option ACase). IsFirstOf t pa leaf op o) (sym f.found) (is_first s t walk pa h leaf op f.case_is posable a f.first)
  | inr n ↦ subst (λ (o : Option ACase). IsFirstOf t pa leaf op o) (sym (none_found s leaf op cs all n)) (allowed_same s t walk pa h leaf op ∙ n)
]
  where
    test_in : (test : Op → Bool) (list : List Op) (o : Op) → HasItem list o → list_all test list ≡ true → test o ≡ true
    test_in test [] o i q = absurd i
    test_in test (x ∷ xs) o i q = elim i [
      | inl y ↦ subst (λ (r : Op). test r ≡ true) y (and_parts (test x) (list_all test xs) q).0
      | inr j ↦ test_in test xs o j (and_parts (test x) (list_all test xs) q).1
    ]

pub whole_problem : AreGoals → (s : Stand) (leaf : List Atom) (draws pivots : List ℕ) (start firsts end : Shaped) → are_posable s leaf ≡ true → start.cases ≡ [] → ArePivots draws pivots → AddsFirsts s leaf OPS start firsts → Adds s leaf firsts end (all_cases s leaf OPS)
    → PosesLeaf s leaf draws (record { cases = end.cases; pivots = pivots; pairs = s.pairs; fetch = false })
whole_problem laws s leaf draws pivots start firsts end p n d h k t walk pa loads stores is fetched rows =
    let same : FitsSame end.cases (all_cases s leaf OPS) = k.fits [] (h.adds.fits [] (subst (λ (l : List ACase). FitsSame l []) (sym n) none_yet)) in
    let here : end.cases ≡ h.firsts ++ k.rest = start_gone start.cases h.firsts k.rest end.cases n (k.behind ∙ ap (λ (l : List ACase). l ++ k.rest) h.is) in
    record {
      shape = k.shape (h.adds.shape (nothing IsCase start.cases n));
      no_fetch = refl;
      pairs = sym is.pairs;
      draws_are = d;
      firsts = firsts_found s t walk pa is leaf end.cases h.firsts k.rest p here h.are (k.allowed (h.adds.allowed (nothing (IsAllowedCase s leaf) start.cases n)));
      cases = record { same = every_turn laws s t walk pa leaf loads stores (record { stand = is; fetched = fetched; rows = rows }) OPS end.cases p same };
    }

pub shaped_lengths : (s : Stand) (leaf : List Atom) (shapes : List Shape) (cs : List ACase) → AreShaped s leaf shapes cs → length shapes ≡ length cs
shaped_lengths s leaf [] [] h = refl
shaped_lengths s leaf (shape ∷ shapes) (c ∷ cs) h = ap suc (shaped_lengths s leaf shapes cs h.1)
shaped_lengths s leaf (shape ∷ shapes) [] h = absurd h
shaped_lengths s leaf [] (c ∷ cs) h = absurd h
