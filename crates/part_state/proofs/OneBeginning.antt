-- Two tests that begin as a template says are one.
use Rattle.std.proofs.Common.{◌≡◌, ℕ, zero, suc, ◌<◌, List, length, None, sym, ap, ◌∙◌, subst, inl, inr, arith}
use Rattle.std.specs.Prelude.{slice_index_or}
use Rattle.std.proofs.lemmas.Bool.{cases_eq, lt-ltb, ne_eqb}
use Rattle.std.proofs.lemmas.List.{ext_get_or}
use Rattle.rv_script.specs.declared.access.Role.{Role}
use Rattle.rv_hart.specs.declared.record.Record.{Record}
use Rattle.rv_hart.specs.Fixed.{Fixed}
use Rattle.tpl_ast.specs.declared.template.Template.{Template}
use Rattle.part_machine.specs.Whole.{Bare, Whole, fixed_in, hart_of, no_hart}
use Rattle.part_machine.proofs.Undoing.{same_whole}
use Rattle.part_state.specs.Beginning.{IsBegun}
use Rattle.part_state.specs.Meaning.{IsFit, IsTest, value_of_key}
use Rattle.part_state.specs.State.{Test, data_of, feet_of, whole}

-- ---- a hart is told by its fixed parts and the values of its places

module _ (a b : Bare) (fit : IsFit a) (fit_so : IsFit b) (places : (key : ℕ) → value_of_key a key ≡ value_of_key b key) where
  same_register : (n : ℕ) → n < 32 → slice_index_or a.regs n None ≡ slice_index_or b.regs n None
  same_register n less = elim (cases_eq n 0) [
    | inl same ↦ ap (λ (i : ℕ). slice_index_or a.regs i None) same ∙ fit.zero ∙ sym fit_so.zero ∙ ap (λ (i : ℕ). slice_index_or b.regs i None) (sym same)
    | inr some ↦ rw (lt-ltb n 32 less, ne_eqb n 0 some) at (places n)
  ]

  same_lazy : (n : ℕ) → n < 10 → slice_index_or a.csrs.lazy n None ≡ slice_index_or b.csrs.lazy n None
  same_lazy zero less = places 0x1105
  same_lazy (suc zero) less = places 0x1140
  same_lazy (suc (suc zero)) less = places 0x1141
  same_lazy (suc (suc (suc zero))) less = places 0x1142
  same_lazy (suc (suc (suc (suc zero)))) less = places 0x1143
  same_lazy (suc (suc (suc (suc (suc zero))))) less = places 0x1305
  same_lazy (suc (suc (suc (suc (suc (suc zero)))))) less = places 0x1340
  same_lazy (suc (suc (suc (suc (suc (suc (suc zero))))))) less = places 0x1341
  same_lazy (suc (suc (suc (suc (suc (suc (suc (suc zero)))))))) less = places 0x1342
  same_lazy (suc (suc (suc (suc (suc (suc (suc (suc (suc zero))))))))) less = places 0x1343
  same_lazy (suc (suc (suc (suc (suc (suc (suc (suc (suc (suc n)))))))))) less = absurd (omega (arith, less))

  same_hart : (pc : a.pc ≡ b.pc) (privilege : a.privilege ≡ b.privilege) (mstatus : a.csrs.mstatus ≡ b.csrs.mstatus) (medeleg : a.csrs.medeleg ≡ b.csrs.medeleg) (satp : a.csrs.satp ≡ b.csrs.satp) (number : a.csrs.hart ≡ b.csrs.hart) → a ≡ b
  same_hart pc privilege mstatus medeleg satp number =
      let regs : a.regs ≡ b.regs = ext_get_or None a.regs b.regs (fit.size ∙ sym fit_so.size) (λ n less. same_register n (let size = fit.size in omega (arith, less, size))) in
      let lazy : a.csrs.lazy ≡ b.csrs.lazy = ext_get_or None a.csrs.lazy b.csrs.lazy (fit.lazy ∙ sym fit_so.lazy) (λ n less. same_lazy n (let size = fit.lazy in omega (arith, less, size))) in
      let csrs : a.csrs ≡ b.csrs = (λ i. record { mstatus = mstatus i; medeleg = medeleg i; satp = satp i; hart = number i; lazy = lazy i }) in
      λ i. record { pc = pc i; privilege = privilege i; regs = regs i; csrs = csrs i }

-- ---- the whole

module _ (t : Template) (a b : Whole) (begun : IsBegun t a) (begun_so : IsBegun t b) (test : IsTest a) (test_so : IsTest b) where
  one_hart : (k : ℕ) → k < length t.harts → hart_of k a ≡ hart_of k b
  one_hart k less =
      let fixed : fixed_in (hart_of k a) a.memory ≡ fixed_in (hart_of k b) b.memory = begun.fixed k less ∙ sym (begun_so.fixed k less) in
      same_hart (hart_of k a) (hart_of k b)
      (test.fit k (subst (λ (n : ℕ). k < n) (sym begun.count) less)) (test_so.fit k (subst (λ (n : ℕ). k < n) (sym begun_so.count) less))
      (λ key. begun.places k key less ∙ sym (begun_so.places k key less))
      (ap (λ (f : Fixed). f.pc) fixed) (ap (λ (f : Fixed). f.privilege) fixed) (ap (λ (f : Fixed). f.mstatus) fixed)
      (ap (λ (f : Fixed). f.medeleg) fixed) (ap (λ (f : Fixed). f.satp) fixed) (ap (λ (f : Fixed). f.number) fixed)

  same_harts : a.harts ≡ b.harts
  same_harts = ext_get_or no_hart a.harts b.harts (begun.count ∙ sym begun_so.count) (λ k less. one_hart k (subst (λ (n : ℕ). k < n) begun.count less))

  pub one_whole : ((x y : ℕ) (r : Role) → a.feet x y r ≡ b.feet x y r) → a ≡ b
  one_whole feet = same_whole a b (record {
    ram = begun.ends ∙ sym begun_so.ends;
    first = begun.first ∙ same_harts ∙ sym begun_so.first;
    words = begun.listed ∙ sym begun_so.listed;
    traces = begun.traces ∙ sym begun_so.traces;
    harts = same_harts;
    memory = λ n. begun.memory n ∙ sym (begun_so.memory n);
    feet = feet;
    names = begun.names ∙ sym begun_so.names;
    choices = begun.choices ∙ sym begun_so.choices;
    dropped = begun.dropped ∙ sym begun_so.dropped;
  })

pub begun_is_one : (t : Template) (a b : Test) → IsBegun t (whole a) → IsBegun t (whole b) → IsTest (whole a) → IsTest (whole b) → a ≡ data_of (whole a) → b ≡ data_of (whole b) → a ≡ b
begun_is_one t a b begun begun_so test test_so told told_so =
    let traces : a.traces ≡ b.traces = begun.traces ∙ sym begun_so.traces in
    told ∙ ap data_of (one_whole t (whole a) (whole b) begun begun_so test test_so (λ x y r. ap (λ (ts : List (List Record)). feet_of ts x y r) traces)) ∙ sym told_so
