-- What is known of a test that begins as its template says is words.
use Rattle.std.proofs.Common.{◌≡◌, ◌%◌, ℕ, zero, suc, ◌+◌, ◌*◌, ◌/◌, ◌^◌, ◌<◌, Bool, true, false, eqb, if◌then◌else◌, List, [], ◌∷◌, length, Option, Some, None, slice_index_or, sym, ap, ◌∙◌, subst, inl, inr, arith}
use Rattle.std.specs.List.{AllByRecursion}
use Rattle.std.proofs.lemmas.Bool.{cases_Bool, cases_eq, cases_lt, lt-ltb, ne_eqb}
use Rattle.std.proofs.lemmas.List.{get_or_past}
use Rattle.std.proofs.lemmas.Nat.{and_le_l}
use Rattle.std.proofs.lemmas.Option.{same_Some}
use Rattle.rv_csr.specs.declared.access.CsrAccess.{CsrAccess}
use Rattle.rv_csr.specs.declared.access.CsrAccess.TheVariants.{Granted, Denied, Outside as NotModelled}
use Rattle.rv_csr.specs.declared.table.Register.TheVariants.{Sstatus, Satp, Mstatus, Medeleg, Mhartid, Lazy}
use Rattle.rv_csr.specs.State.{lazy_value_at}
use Rattle.rv_csr.specs.Table.{csr_address, csr_key, sstatus_mask}
use Rattle.rv_mem.specs.declared.words.Seen.TheVariants.{Vacant}
use Rattle.rv_mem.specs.Part.{valued}
use Rattle.rv_mem.specs.Seen.{known_word}
use Rattle.rv_script.specs.declared.place.Place.TheVariants.{Reg, Csr, Word}
use Rattle.rv_hart.specs.Fixed.{Fixed}
use Rattle.tpl_ast.specs.declared.template.HartDecl.{HartDecl}
use Rattle.tpl_ast.specs.declared.template.HartState.{HartState}
use Rattle.tpl_ast.specs.declared.template.Region.{Region}
use Rattle.tpl_ast.specs.declared.template.Template.{Template}
use Rattle.tpl_ast.specs.States.{ArePlaces, AreStartWords, IsState, is_in_ram}
use Rattle.tpl_ast.specs.Templates.{KeepsLimits}
use Rattle.tpl_admit.specs.Starts.{fixed_in as fixed_given, lookup}
use Rattle.part_machine.specs.Whole.{Whole, fixed_in, hart_of}
use Rattle.part_state.specs.Beginning.{IsBegun, start_in}
use Rattle.part_state.specs.Meaning.{IsTest, value_of_key}
use Rattle.part_state.proofs.Keys.{high_key}
use Rattle.leaf_link.specs.Values.{fixed_value}
use Rattle.leaf_link.specs.Ways.{AreWords}
use Rattle.turn_laws.specs.Given.{known_at}
use Rattle.gen_turn.specs.Grounds.{IsOfWords}

-- ---- what a template gives

found_place : (from : ℕ) (es : List (ℕ × ℕ)) → ArePlaces from es → (key v : ℕ) → lookup es key ≡ Some v → v < 2 ^ 32
found_place from [] are key v is = absurd (cc is)
found_place from (e ∷ es) are key v is = elim (cases_Bool (eqb e.0 key)) [
  | inl here ↦ (let both : Some e.1 ≡ Some v = rw here at is in subst (λ (n : ℕ). n < 2 ^ 32) (same_Some e.1 v both) are.2)
  | inr other ↦ found_place (e.0 + 1) es are.3 key v (rw other at is)
]

found_word : (ram : List Region) (from : ℕ) (es : List (ℕ × ℕ)) → AreStartWords ram from es → (addr v : ℕ) → lookup es addr ≡ Some v → v < 2 ^ 32
found_word ram from [] are addr v is = absurd (cc is)
found_word ram from (e ∷ es) are addr v is = elim (cases_Bool (eqb e.0 addr)) [
  | inl here ↦ (let both : Some e.1 ≡ Some v = rw here at is in subst (λ (n : ℕ). n < 2 ^ 32) (same_Some e.1 v both) are.3)
  | inr other ↦ found_word ram (e.0 + 4) es are.4 addr v (rw other at is)
]

state_at : (ds : List HartDecl) (k : ℕ) → AllByRecursion (λ (h : HartDecl). IsState h.start) ds → k < length ds → IsState (start_in ds k)
state_at [] k are less = absurd (omega (arith, less))
state_at (d ∷ ds) zero are less = are.0
state_at (d ∷ ds) (suc k) are less = state_at ds k are.1 (omega (arith, less))

seen_word : (there : Bool) (o : Option ℕ) (v : ℕ) → known_word (if there then valued o else Vacant) ≡ Some v → o ≡ Some v
seen_word true None v h = absurd (cc h)
seen_word true (Some u) v h = h
seen_word false o v h = absurd (cc h)

-- ---- what is known

module _ (t : Template) (w : Whole) (keeps : KeepsLimits t.text t) (begun : IsBegun t w) (test : IsTest w) (k : ℕ) (less : k < length t.harts) where
  abbrev state : HartState
  state = start_in t.harts k

  is_state : IsState state
  is_state = state_at t.harts k keeps.states less

  within : k < length w.harts
  within = subst (λ (n : ℕ). k < n) (sym begun.count) less

  key_word : (key v : ℕ) → value_of_key (hart_of k w) key ≡ Some v → v < 2 ^ 32
  key_word key v h = found_place 0 state.places is_state.places key v (sym (begun.places k key less) ∙ h)

  register_word : (n v : ℕ) → slice_index_or (hart_of k w).regs n None ≡ Some v → v < 2 ^ 32
  register_word n v h = elim (cases_eq n 0) [
    | inl same ↦
        let is : 0 ≡ v = same_Some 0 v (sym (test.fit k within).zero ∙ ap (λ (i : ℕ). slice_index_or (hart_of k w).regs i None) (sym same) ∙ h) in
        omega (arith, is)
    | inr some ↦ elim (cases_lt n 32) [
      | inl low ↦ key_word n v (rw (lt-ltb n 32 low, ne_eqb n 0 some) h)
      | inr past ↦
          let size = (test.fit k within).size in
          let none : slice_index_or (hart_of k w).regs n None ≡ None = get_or_past (hart_of k w).regs n None (omega (arith, size, past)) in
          absurd (cc (sym none ∙ h))
    ]
  ]

  known : AreWords (known_at k w)
  known (Reg n) v h = register_word n v h
  known (Csr addr) v h =
      let same : csr_address (csr_key addr) ≡ addr = omega arith in
      key_word (csr_key addr) v (rw (high_key addr) (ap (λ (a : ℕ). lazy_value_at (hart_of k w).csrs a) same ∙ h))
  known (Word addr) v h =
      let n : ℕ = addr / 4 in
      found_word t.ram 0 t.words keeps.words (n * 4) v (seen_word (is_in_ram t.ram (n * 4)) (lookup t.words (n * 4)) v (sym (ap known_word (begun.memory n)) ∙ h))

  same : fixed_in (hart_of k w) w.memory ≡ fixed_given t.ram k state
  same = begun.fixed k less

  fixed : (access : CsrAccess) → fixed_value (fixed_in (hart_of k w) w.memory) access < 2 ^ 32
  fixed Denied = omega arith
  fixed NotModelled = omega arith
  fixed (Granted (Lazy register)) = omega arith
  fixed (Granted Satp) = subst (λ (n : ℕ). n < 2 ^ 32) (sym (ap (λ (f : Fixed). f.satp) same)) is_state.satp
  fixed (Granted Mstatus) = subst (λ (n : ℕ). n < 2 ^ 32) (sym (ap (λ (f : Fixed). f.mstatus) same)) is_state.mstatus
  fixed (Granted Medeleg) = subst (λ (n : ℕ). n < 2 ^ 32) (sym (ap (λ (f : Fixed). f.medeleg) same)) is_state.medeleg
  fixed (Granted Mhartid) = (let few = keeps.harts in let number = ap (λ (f : Fixed). f.number) same in omega (arith, few, number, less))
  fixed (Granted Sstatus) =
      (let small : (hart_of k w).csrs.mstatus < 2 ^ 32 = subst (λ (n : ℕ). n < 2 ^ 32) (sym (ap (λ (f : Fixed). f.mstatus) same)) is_state.mstatus in
      let smaller = and_le_l (hart_of k w).csrs.mstatus sstatus_mask in omega (arith, smaller, small))

  pub first_words : IsOfWords k w
  first_words = record { aligned = subst (λ (n : ℕ). n % 4 ≡ 0) (sym (ap (λ (f : Fixed). f.pc) same)) is_state.aligned; known = known; fixed = fixed }
