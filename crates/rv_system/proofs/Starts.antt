-- A system that was filled stands for the filled one.
use Rattle.std.proofs.Common.{◌≡◌, ℕ, ◌+◌, ◌*◌, ◌/◌, ◌<◌, Bool, List, [], ◌∷◌, ◌++◌, length, Some, None, refl, sym, ap, ◌∙◌, subst, inl, inr, arith}
use Rattle.std.specs.Prelude.{nat_lt, slice_index_or}
use Rattle.std.proofs.Math.Path.{fun_ext}
use Rattle.std.proofs.lemmas.Bool.{cases_Bool, cases_eq, cases_lt, eq-eqb, ne_eqb}
use Rattle.std.proofs.Math.Seq.{get_or-append_seam}
use Rattle.std.proofs.lemmas.List.{get_or_past, get_or_append_left, length-append}
use Rattle.std.proofs.lemmas.Option.{get_or_from_slice_get}
use Rattle.rv_mem.specs.declared.words.Seen.{Seen}
use Rattle.rv_mem.specs.declared.words.Seen.TheVariants.{Known as KnownWord, Untouched, Vacant}
use Rattle.rv_mem.specs.Seen.{is_there, known_word}
use Rattle.rv_script.specs.declared.place.Place.{Place}
use Rattle.rv_script.specs.declared.place.Place.TheVariants.{Reg, Csr, Word}
use Rattle.rv_csr.specs.Table.{csr_key}
use Rattle.rv_hart.specs.declared.hart.Hart.{Hart}
use Rattle.rv_hart.specs.Clauses.{Has}
use Rattle.rv_hart.specs.Fixed.{Fixed}
use Rattle.rv_hart.specs.View.{known, fixed_of}
use Rattle.rv_hart.specs.Whole.{value_at}
use Rattle.tpl_lang.specs.Laws.{TemplatesKeepLimits}
use Rattle.tpl_ast.specs.declared.template.Region.{Region}
use Rattle.tpl_ast.specs.States.{is_in_ram}
use Rattle.tpl_admit.specs.declared.certificate.Cert.{Cert}
use Rattle.tpl_admit.specs.Starts.{first_system, start_of}
use Rattle.tpl_admit.specs.WellFormed.{IsWellFormed}
use Rattle.given_start.specs.Knowledge.{fixed_now}
use Rattle.given_start.specs.Internal.Regions.{AreAligned}
use Rattle.given_start.proofs.Aligned.{frames_aligned}
use Rattle.given_start.proofs.Knowledge.{known_small, known_csr}
use Rattle.rv_system.specs.Fills.{even_place, evenly, filled_hart, filled_system}
use Rattle.rv_system.specs.Internal.Starting.{AreFilledHarts, IsFilledHart, IsFilledMemory}
use Rattle.rv_system.specs.Systems.{AreAllKnown, IsWholeOf}

pub ram_aligned : TemplatesKeepLimits → (c : Cert) → IsWellFormed c → AreAligned c.template.ram
ram_aligned keep c formed = frames_aligned c.template.ram (keep c.template.text c.template formed.template).ram

-- ---- one hart

zero_known : (h : Hart) → slice_index_or h.regs 0 None ≡ Some 0
zero_known h = get_or_from_slice_get h.regs 0 (Some 0) None h.zero

known_is : (s : Seen) (v : ℕ) → known_word s ≡ Some v → s ≡ KnownWord v
known_is (KnownWord w) v e = let same : w ≡ v = cc e in ap (λ (x : ℕ). KnownWord x) same
known_is Untouched v e = absurd (cc e)
known_is Vacant v e = absurd (cc e)

fixed_same : (ram : List Region) (h : Hart) (at : ℕ → Seen) → ((n : ℕ) → is_there (at n) ≡ is_in_ram ram (n * 4)) → fixed_of h at ≡ fixed_now ram h
fixed_same ram h at same =
    ap (λ (there : ℕ → Bool). let f : Fixed = record { pc = h.pc; privilege = h.privilege; mstatus = h.csrs.mstatus; medeleg = h.csrs.medeleg; satp = h.csrs.satp; number = h.csrs.hart; ram = there } in f) (fun_ext same)

-- the values of a hart and a memory that were filled
place_filled : (c : Cert) (fill k : ℕ) (h : Hart) (at : ℕ → Seen) → IsFilledHart (start_of c k) k fill h → IsFilledMemory c.template.ram c.words fill at
    → (place : Place) (v : ℕ) → known h at place ≡ Some v → value_at (filled_hart c (evenly fill) k).file (filled_system c (evenly fill)).memory place ≡ v
place_filled c fill k h at hart memory (Reg n) v e = elim (cases_eq n 0) [
  | inl none ↦
      let zero_is : slice_index_or h.regs 0 None ≡ Some v = subst (λ (i : ℕ). slice_index_or h.regs i None ≡ Some v) none e in
      let same : Some 0 ≡ Some v = sym (zero_known h) ∙ zero_is in
      let value : 0 ≡ v = cc same in
      rw (eq-eqb n 0 none) value
  | inr some ↦ rw (ne_eqb n 0 some) (elim (cases_lt n 32) [
    | inl small ↦ hart.values n v (known_small h.regs h.csrs n small some ∙ e)
    | inr large ↦ (let past : slice_index_or h.regs n None ≡ None = get_or_past h.regs n None (omega (arith, large, hart.registers)) in let no : None ≡ Some v = sym past ∙ e in absurd (cc no))
  ])
]
place_filled c fill k h at hart memory (Csr addr) v e = hart.values (csr_key addr) v (known_csr h.regs h.csrs addr ∙ e)
place_filled c fill k h at hart memory (Word addr) v e = memory.values (addr / 4) v (known_is (at (addr / 4)) v e)

hart_filled : (c : Cert) (fill k : ℕ) (h : Hart) (at : ℕ → Seen) → IsFilledHart (start_of c k) k fill h → IsFilledMemory c.template.ram c.words fill at
    → Has (fixed_of h at) (known h at) (filled_hart c (evenly fill) k) (filled_system c (evenly fill)).memory
hart_filled c fill k h at hart memory = record {
  fixed = sym (fixed_same c.template.ram h at memory.there ∙ hart.fixed c.template.ram);
  values = place_filled c fill k h at hart memory;
}

-- ---- all

pub stands_filled : (c : Cert) (fill : ℕ) (harts : List Hart) (at : ℕ → Seen) → AreFilledHarts c fill harts → IsFilledMemory c.template.ram c.words fill at → IsWholeOf harts at (filled_system c (evenly fill))
stands_filled c fill harts at are memory = record {
  each = λ k d within. hart_filled c fill k (slice_index_or harts k d) at (are.each k d within) memory;
  words = λ n v is. memory.values n v is;
}

pub all_filled : (c : Cert) (fill : ℕ) (harts : List Hart) → AreFilledHarts c fill harts → AreAllKnown harts
all_filled c fill harts are k key d within place = (are.each k d within).known key place

-- ---- zero

even_zero : (key : ℕ) → even_place 0 key ≡ 0
even_zero key = elim (cases_Bool (nat_lt key 32)) [
  | inl below ↦ rw below refl
  | inr past ↦ rw past refl
]

pub zero_first : (c : Cert) → filled_system c (evenly 0) ≡ first_system c
zero_first c = ap (λ (places : ℕ → ℕ). filled_system c (record { places = λ k. places; words = λ n. 0 })) (fun_ext even_zero)

pub stands_first : (c : Cert) (fill : ℕ) (harts : List Hart) (at : ℕ → Seen) → fill ≡ 0 → IsWholeOf harts at (filled_system c (evenly fill)) → IsWholeOf harts at (first_system c)
stands_first c fill harts at zero stand = subst (IsWholeOf harts at) (ap (λ (n : ℕ). filled_system c (evenly n)) zero ∙ zero_first c) stand

-- ---- the harts one after another

-- so many harts are filled
pub record AreFilledTo (c : Cert) (fill n : ℕ) (harts : List Hart) : Type 0 where
  pub count : length harts ≡ n
  pub each : (k : ℕ) (d : Hart) → k < length harts → IsFilledHart (start_of c k) k fill (slice_index_or harts k d)

pub filled_first : (c : Cert) (fill : ℕ) (harts : List Hart) → harts ≡ [] → AreFilledTo c fill 0 harts
filled_first c fill harts none = record {
  count = ap length none;
  each = λ k d within. absurd (omega (arith, within, ap length none));
}

pub filled_next : (c : Cert) (fill n : ℕ) (harts after : List Hart) (h : Hart) → AreFilledTo c fill n harts → after ≡ harts ++ h ∷ [] → IsFilledHart (start_of c n) n fill h → AreFilledTo c fill (n + 1) after
filled_next c fill n harts after h are appended is = record {
  count = size ∙ ap (λ (i : ℕ). i + 1) are.count;
  each = λ k d within. elim (cases_eq k n) [
    | inl same ↦
        let here : slice_index_or after k d ≡ h = ap (λ (hs : List Hart). slice_index_or hs k d) appended ∙ ap (λ (i : ℕ). slice_index_or (harts ++ h ∷ []) i d) (same ∙ sym are.count) ∙ get_or-append_seam harts h [] d in
        subst (λ (g : Hart). IsFilledHart (start_of c k) k fill g) (sym here) (subst (λ (i : ℕ). IsFilledHart (start_of c i) i fill h) (sym same) is)
    | inr other ↦
        let inside : k < length harts = omega (arith, within, size, other, are.count) in
        let there : slice_index_or after k d ≡ slice_index_or harts k d = ap (λ (hs : List Hart). slice_index_or hs k d) appended ∙ get_or_append_left harts (h ∷ []) d k inside in
        subst (λ (g : Hart). IsFilledHart (start_of c k) k fill g) (sym there) (are.each k d inside)
  ];
}
  where
    size : length after ≡ length harts + 1
    size = ap length appended ∙ length-append harts (h ∷ [])

pub filled_end : (c : Cert) (fill n : ℕ) (harts : List Hart) → n ≡ length c.start → AreFilledTo c fill n harts → AreFilledHarts c fill harts
filled_end c fill n harts end are = record { count = are.count ∙ end; each = are.each }
