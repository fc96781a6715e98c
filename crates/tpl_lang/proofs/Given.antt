-- The state that a hart's lines give.
use Rattle.std.proofs.Common.{◌≡◌, ℕ, ◌+◌, ◌<◌, ◌≤◌, ◌&&◌, ◌||◌, Bool, true, false, cond, eqb, leb, ltb, List, [], ◌∷◌, Option, Some, None, refl, sym, ap, ◌∙◌, subst, arith}
use Rattle.std.specs.List.{AllByRecursion}
use Rattle.std.specs.Option.{is_none, unwrap_or}
use Rattle.std.proofs.lemmas.Bool.{eqb-true, eqb-false, ltb-true, ltb-false}
use Rattle.std.proofs.lemmas.Bool.Decides.{nat_tests}
use Rattle.rv_csr.specs.declared.table.Register.{Register}
use Rattle.rv_csr.specs.declared.table.Register.TheVariants.{Sstatus, Satp, Mstatus, Medeleg, Mhartid, Lazy}
use Rattle.rv_csr.specs.declared.table.LazyRegister.{LazyRegister}
use Rattle.rv_csr.specs.declared.table.LazyRegister.TheVariants.{Stvec, Sscratch, Sepc, Scause, Stval, Mtvec, Mscratch, Mepc, Mcause, Mtval}
use Rattle.rv_csr.specs.Table.{address_of, csr_address, csr_key, is_legal, is_legal_at, is_legal_for}
use Rattle.rv_csr.proofs.Places.{own_addresses}
use Rattle.tpl_lang.specs.Faults.{is_no_register, has_key, is_never_given, key_of_csr}
use Rattle.tpl_lang.specs.Statements.{inserted, is_fixed_key, lazy_places, value_at}
use Rattle.tpl_ast.specs.States.{ArePlaces, IsWord, is_key, is_legal_place}
use Rattle.tpl_lang.proofs.Steps.{either_false}

-- ---- what is given

-- a register but x0, or a CSR with a legal value that a hart's lines may give
data IsPlace (key value : ℕ) : Type 0 where
  OfRegister : 1 ≤ key → key < 32 → IsPlace key value
  OfCsr : (r : Register) → is_never_given (Some r) ≡ false → key ≡ csr_key (address_of r) → is_legal r value ≡ true → IsPlace key value

-- by ascending key, each once, from a key on
abbrev AreGiven : ℕ → List (ℕ × ℕ) → Type 0
AreGiven from [] = Unit {0}
AreGiven from (e ∷ es) = (from ≤ e.0) × IsWord e.1 × IsPlace e.0 e.1 × AreGiven (e.0 + 1) es

pub record GivenKept (es : List (ℕ × ℕ)) : Type 0 where
  given : AreGiven 0 es

pub none_given : GivenKept []
none_given = record { given = tt }

put : (key v : ℕ) → IsWord v → IsPlace key v → (from : ℕ) (es : List (ℕ × ℕ)) → AreGiven from es → from ≤ key → has_key es key ≡ false → AreGiven from (inserted key v es)
put key v small place from [] h above new = (above, small, place, tt)
put key v small place from (e ∷ es) h above new = go (ltb key e.0) refl (put key v small place (e.0 + 1) es) where
  free : (eqb e.0 key ≡ false) × (has_key es key ≡ false)
  free = either_false (eqb e.0 key) (has_key es key) new

  go : (c : Bool) → ltb key e.0 ≡ c → (AreGiven (e.0 + 1) es → e.0 + 1 ≤ key → has_key es key ≡ false → AreGiven (e.0 + 1) (inserted key v es)) → AreGiven from (cond c ((key, v) ∷ e ∷ es) (e ∷ inserted key v es))
  go true is rest = (above, small, place, (omega (arith, ltb-true key e.0 is), h.1, h.2, h.3))
  go false is rest = (h.0, h.1, h.2, rest h.3 (omega (arith, ltb-false key e.0 is, eqb-false e.0 key free.0)) free.1)

pub register_given : (es : List (ℕ × ℕ)) (n : Option ℕ) (v : ℕ) → GivenKept es → is_no_register n ≡ false → IsWord v → has_key es (unwrap_or n 0) ≡ false → GivenKept (inserted (unwrap_or n 0) v es)
register_given es None v h is small new = absurd (cc is)
register_given es (Some n) v h is small new =
    let a = either_false (eqb n 0) (ltb 31 n) is in
    record { given = put n v small (OfRegister (omega (arith, eqb-false n 0 a.0)) (omega (arith, ltb-false 31 n a.1))) 0 es h.given (omega arith) new }

pub csr_given : (es : List (ℕ × ℕ)) (o : Option Register) (v : ℕ) → GivenKept es → is_none o ≡ false → is_never_given o ≡ false → is_legal_for o v ≡ true → IsWord v → has_key es (key_of_csr o) ≡ false → GivenKept (inserted (key_of_csr o) v es)
csr_given es None v h is may legal small new = absurd (cc is)
csr_given es (Some r) v h is may legal small new = record { given = put (csr_key (address_of r)) v small (OfCsr r may refl legal) 0 es h.given (omega arith) new }

-- ---- fixed parts

pub record IsFixed (address value : ℕ) : Type 0 where
  pub small : IsWord value
  pub legal : is_legal_at address value ≡ true

legal_there : (r : Register) (address value : ℕ) → csr_key (address_of r) ≡ csr_key address → is_legal r value ≡ true → is_legal_at address value ≡ true
legal_there r address value is legal =
    let same : address_of r ≡ address = omega (arith, is) in
    subst (λ (a : ℕ). is_legal_at a value ≡ true) same (ap (λ o. is_legal_for o value) (own_addresses.registers r) ∙ legal)

fixed_place : (address key value : ℕ) → key ≡ csr_key address → IsPlace key value → is_legal_at address value ≡ true
fixed_place address key value is (OfRegister low high) = absurd (omega (arith, is, high))
fixed_place address key value is (OfCsr r may at legal) = legal_there r address value (sym at ∙ is) legal

fixed_at : (address : ℕ) → is_legal_at address 0 ≡ true → (from : ℕ) (es : List (ℕ × ℕ)) → AreGiven from es → IsFixed address (value_at es (csr_key address))
fixed_at address zero_legal from [] h = record { small = omega arith; legal = zero_legal }
fixed_at address zero_legal from (e ∷ es) h = go (eqb e.0 (csr_key address)) refl (fixed_at address zero_legal (e.0 + 1) es h.3) where
  go : (c : Bool) → eqb e.0 (csr_key address) ≡ c → IsFixed address (value_at es (csr_key address)) → IsFixed address (cond c e.1 (value_at es (csr_key address)))
  go true is rest = record { small = h.1; legal = fixed_place address e.0 e.1 (eqb-true e.0 (csr_key address) is) h.2 }
  go false is rest = rest

pub mstatus_given : (es : List (ℕ × ℕ)) → GivenKept es → IsFixed 0x300 (value_at es 0x1300)
mstatus_given es h = fixed_at 0x300 refl 0 es h.given

pub medeleg_given : (es : List (ℕ × ℕ)) → GivenKept es → IsFixed 0x302 (value_at es 0x1302)
medeleg_given es h = fixed_at 0x302 refl 0 es h.given

pub satp_given : (es : List (ℕ × ℕ)) → GivenKept es → IsFixed 0x180 (value_at es 0x1180)
satp_given es h = fixed_at 0x180 refl 0 es h.given

-- ---- lazy places

lazy_key : (l : LazyRegister) → is_key (csr_key (address_of (Lazy l))) ≡ true
lazy_key Stvec = refl
lazy_key Sscratch = refl
lazy_key Sepc = refl
lazy_key Scause = refl
lazy_key Stval = refl
lazy_key Mtvec = refl
lazy_key Mscratch = refl
lazy_key Mepc = refl
lazy_key Mcause = refl
lazy_key Mtval = refl

csr_is_key : (r : Register) → is_never_given (Some r) ≡ false → is_fixed_key (csr_key (address_of r)) ≡ false → is_key (csr_key (address_of r)) ≡ true
csr_is_key Sstatus may free = absurd (cc may)
csr_is_key Mhartid may free = absurd (cc may)
csr_is_key Satp may free = absurd (cc free)
csr_is_key Mstatus may free = absurd (cc free)
csr_is_key Medeleg may free = absurd (cc free)
csr_is_key (Lazy l) may free = lazy_key l

-- the key is that of a lazy place, and the value is legal for it
lazy_place : (e : ℕ × ℕ) → is_fixed_key e.0 ≡ false → IsPlace e.0 e.1 → (is_key e.0 ≡ true) × (is_legal_place e ≡ true)
lazy_place e free (OfRegister low high) = (register low high, below high) where
  register : 1 ≤ e.0 → e.0 < 32 → is_key e.0 ≡ true
  register low high = let a : (leb 1 e.0 && ltb e.0 32) ≡ true = grind (arith, nat_tests, low, high) in rw a refl

  below : e.0 < 32 → is_legal_place e ≡ true
  below high = let a : ltb e.0 32 ≡ true = grind (arith, nat_tests, high) in rw a refl
lazy_place e free (OfCsr r may at legal) = (
  subst (λ (key : ℕ). is_key key ≡ true) (sym at) (csr_is_key r may (subst (λ (key : ℕ). is_fixed_key key ≡ false) at free)),
  either (ltb e.0 32) _ (legal_there r (csr_address e.0) e.1 (omega (arith, at)) legal),
)
  where
    either : (c d : Bool) → d ≡ true → c || d ≡ true
    either true d h = refl
    either false d h = h

-- fewer places from a lower key on
lower : (from key : ℕ) (es : List (ℕ × ℕ)) → from ≤ key → ArePlaces key es → ArePlaces from es
lower from key [] above h = tt
lower from key (e ∷ es) above h = (omega (arith, above, h.0), h.1, h.2, h.3)

pub record PlacesKept (from : ℕ) (es : List (ℕ × ℕ)) : Type 0 where
  pub places : ArePlaces from es
  pub legal : AllByRecursion (λ e. is_legal_place e ≡ true) es

places_from : (from : ℕ) (es : List (ℕ × ℕ)) → AreGiven from es → PlacesKept from (lazy_places es)
places_from from [] h = record { places = tt; legal = tt }
places_from from (e ∷ es) h = go (is_fixed_key e.0) refl (places_from (e.0 + 1) es h.3) where
  go : (c : Bool) → is_fixed_key e.0 ≡ c → PlacesKept (e.0 + 1) (lazy_places es) → PlacesKept from (cond c (lazy_places es) (e ∷ lazy_places es))
  go true is rest = record { places = lower from (e.0 + 1) (lazy_places es) (omega (arith, h.0)) rest.places; legal = rest.legal }
  go false is rest =
      let at = lazy_place e is h.2 in
      record { places = (h.0, at.0, h.1, rest.places); legal = (at.1, rest.legal) }

pub places_given : (es : List (ℕ × ℕ)) → GivenKept es → PlacesKept 0 (lazy_places es)
places_given es h = places_from 0 es h.given
