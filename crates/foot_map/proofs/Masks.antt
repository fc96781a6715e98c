-- Bytes of a word one after another, and the masks that name them.
use Rattle.std.proofs.Common.{◌≡◌, ℕ, zero, suc, ◌+◌, ◌-◌, ◌*◌, ◌/◌, ◌%◌, ◌^◌, ◌<◌, ◌≤◌, inl, inr, Bool, true, false, ◌&&◌, ◌||◌, not, cond, eqb, ltb, leb, List, refl, sym, ap, ◌∙◌, arith}
use Rattle.std.specs.Int.{from_bool}
use Rattle.std.proofs.lemmas.Bool.{cases_order, and_parts, eq-eqb, eqb-true, leb-true, ne_eqb, le-leb, lt-leb}
use Rattle.std.proofs.lemmas.Bool.Decides.{nat_tests}
use Rattle.std.proofs.lemmas.Nat.Bits.{bit_at-suc, bit_at_lowest, bit_at_above}
use Rattle.std.proofs.Math.Nat.{pow-suc}
use Rattle.rv_script.specs.declared.access.Role.{Role}
use Rattle.foot_map.specs.declared.touch.Touch.{Touch}
use Rattle.foot_map.specs.Order.{IsInOrder}
use Rattle.foot_map.specs.Touches.{has, is_triple, is_masked, has_bit, same_role}
use Rattle.foot_map.specs.Laws.{RemoveUndoesAdd}
use Rattle.foot_map.proofs.Orders.{triple_is, same_role_is}
use Rattle.foot_map.proofs.Members.{same_triples}

-- ---- bits
bit_lowest : (n : ℕ) → has_bit n 0 ≡ eqb (n % 2) 1
bit_lowest n = ap (λ (b : ℕ). eqb b 1) (bit_at_lowest n)

bit_next : (n i : ℕ) → has_bit n (suc i) ≡ has_bit (n / 2) i
bit_next n i = ap (λ (b : ℕ). eqb b 1) (bit_at-suc n i)

bit_none : (n i : ℕ) → n ≤ 1 → has_bit n (suc i) ≡ false
bit_none n i le = ap (λ (b : ℕ). eqb b 1) (bit_at_above n 1 (suc i) (omega arith) (omega arith))

digit : Bool → ℕ
digit b = cond b 1 0

bit_of : (new : Bool) (n : ℕ) → n ≡ cond new 1 0 → eqb (n % 2) 1 ≡ new
bit_of true n is = rw is refl
bit_of false n is = rw is refl

digit_le : (new : Bool) (n : ℕ) → n ≡ cond new 1 0 → n ≤ 1
digit_le true n is = omega arith
digit_le false n is = omega arith

-- the mask of one byte
pub mask_one : (old : ℕ → Bool) (new : Bool) (n : ℕ) → n ≡ cond new 1 0 → new ≡ not (old 0) → (i : ℕ) → has_bit n i ≡ (ltb i 1 && not (old i))
mask_one old new n is was zero = bit_lowest n ∙ bit_of new n is ∙ was
mask_one old new n is was (suc i) = bit_none n i (digit_le new n is) ∙ past i (not (old (suc i))) where
  past : (i : ℕ) (b : Bool) → false ≡ (ltb (suc i) 1 && b)
  past i b = grind (arith, nat_tests)

-- the mask of one byte and the rest
pub mask_more : (old mid : ℕ → Bool) (new : Bool) (n rest len : ℕ) → n ≡ cond new 1 0 → new ≡ not (old 0) → 1 < len
    → ((i : ℕ) → mid i ≡ old (suc i)) → ((i : ℕ) → has_bit rest i ≡ (ltb i (len - 1) && not (mid i)))
    → (i : ℕ) → has_bit (rest * 2 + n) i ≡ (ltb i len && not (old i))
mask_more old mid new n rest len is was more same bits zero =
    bit_lowest (rest * 2 + n)
    ∙ ap (λ (m : ℕ). eqb m 1) (let le = digit_le new n is in the_digit rest n le)
    ∙ bit_of new n is ∙ was ∙ first len (not (old 0)) more where
      the_digit : (rest n : ℕ) → n ≤ 1 → (rest * 2 + n) % 2 ≡ n % 2
      the_digit rest n le = omega arith

      first : (len : ℕ) (b : Bool) → 1 < len → b ≡ (ltb 0 len && b)
      first len b lt = grind (arith, nat_tests)
mask_more old mid new n rest len is was more same bits (suc i) =
    bit_next (rest * 2 + n) i
    ∙ ap (λ (m : ℕ). has_bit m i) (let le = digit_le new n is in halved rest n le)
    ∙ bits i
    ∙ ap (λ (b : Bool). ltb i (len - 1) && not b) (same i)
    ∙ below i len (not (old (suc i))) more where
      halved : (rest n : ℕ) → n ≤ 1 → (rest * 2 + n) / 2 ≡ rest
      halved rest n le = omega arith

      below : (i len : ℕ) (b : Bool) → 1 < len → (ltb i (len - 1) && b) ≡ (ltb (suc i) len && b)
      below i len b lt = grind (arith, nat_tests)

-- ---- masks inside a word
room_next : (b : ℕ) → b % 4 + 2 ≤ 4 → 4 - b % 4 ≡ suc (4 - (b + 1) % 4)
room_next b fits = omega arith

power_next : (b : ℕ) → b % 4 + 2 ≤ 4 → 2 ^ (4 - b % 4) ≡ 2 ^ (4 - (b + 1) % 4) * 2
power_next b fits = ap (λ (k : ℕ). 2 ^ k) (room_next b fits) ∙ pow-suc 2 (4 - (b + 1) % 4)

power_any : (k : ℕ) → 1 ≤ 2 ^ k
power_any zero = omega arith
power_any (suc k) = let ih = power_any k in omega (arith, pow-suc 2 k)

pub within_one : (b : ℕ) (new : Bool) (n : ℕ) → n ≡ cond new 1 0 → n < 2 ^ (4 - b % 4)
within_one b new n is =
    let e : 4 - b % 4 ≡ suc (3 - b % 4) = omega arith in
    let p : 2 ^ (4 - b % 4) ≡ 2 ^ (3 - b % 4) * 2 = ap (λ (k : ℕ). 2 ^ k) e ∙ pow-suc 2 (3 - b % 4) in
    let one = power_any (3 - b % 4) in
    let le = digit_le new n is in
    omega arith

pub within_more : (b len rest : ℕ) (new : Bool) (n : ℕ) → n ≡ cond new 1 0 → 1 < len → b % 4 + len ≤ 4
    → rest < 2 ^ (4 - (b + 1) % 4) → rest * 2 + n < 2 ^ (4 - b % 4)
within_more b len rest new n is more fits lt =
    let p = power_next b (omega arith) in
    let le = digit_le new n is in
    omega arith

-- a mask with a bit after the first leaves room for the next byte
pub room_of : (b mask : ℕ) → 1 < mask → mask < 2 ^ (4 - b % 4) → b % 4 + 2 ≤ 4
room_of b mask more lt = elim (cases_order (b % 4) 3) [
  | inl last ↦ absurd (let p : 2 ^ (4 - b % 4) ≡ 2 = ap (λ (k : ℕ). 2 ^ (4 - k)) last in omega arith)
  | inr other ↦ elim other [
    | inl less ↦ omega arith
    | inr more ↦ omega arith
  ]
]

pub half_within : (b mask : ℕ) → 1 < mask → mask < 2 ^ (4 - b % 4) → mask / 2 < 2 ^ (4 - (b + 1) % 4)
half_within b mask more lt =
    let p = power_next b (room_of b mask more lt) in
    omega arith

-- ---- one byte and the rest
pub part_more : (o s : Bool) (byte b len : ℕ) → 1 < len →
    ((o || (eqb byte b && s)) || ((leb (byte + 1) b && ltb b (byte + 1 + (len - 1))) && s)) ≡ (o || ((leb byte b && ltb b (byte + len)) && s))
part_more true s byte b len more = refl
part_more false true byte b len more = grind (arith, nat_tests)
part_more false false byte b len more = grind (arith, nat_tests)

-- what one byte less and then the rest leaves, where the byte is before, on or past the first
pub masked_more : (o s : Bool) (byte b mask : ℕ) →
    ((o && not (eqb (mask % 2) 1 && (eqb byte b && s))) && not ((leb (byte + 1) b && has_bit (mask / 2) (b - (byte + 1))) && s))
    ≡ (o && not ((leb byte b && has_bit mask (b - byte)) && s))
masked_more o s byte b mask = elim (cases_order b byte) [
  | inl here ↦ (
      let e : has_bit mask (b - byte) ≡ eqb (mask % 2) 1 = ap (has_bit mask) (let z : b - byte ≡ 0 = omega arith in z) ∙ bit_lowest mask in
      rw (e, eq-eqb byte b (sym here), lt-leb (byte + 1) b (omega arith), le-leb byte b (omega arith)) (on_it o s (eqb (mask % 2) 1))
      )
  | inr other ↦ elim other [
    | inl before ↦ rw (ne_eqb byte b (λ e. omega arith), lt-leb (byte + 1) b (omega arith), lt-leb byte b (omega arith)) (before_it o s (eqb (mask % 2) 1))
    | inr past ↦ (
        let e : has_bit mask (b - byte) ≡ has_bit (mask / 2) (b - (byte + 1)) = ap (has_bit mask) (let z : b - byte ≡ suc (b - (byte + 1)) = omega arith in z) ∙ bit_next mask (b - (byte + 1)) in
        rw (e, ne_eqb byte b (λ e. omega arith), le-leb (byte + 1) b (omega arith), le-leb byte b (omega arith)) (past_it o s (eqb (mask % 2) 1) (has_bit (mask / 2) (b - (byte + 1))))
        )
  ]
] where
  on_it : (o s m : Bool) → ((o && not (m && (true && s))) && not (false && s)) ≡ (o && not (m && s))
  on_it true true true = refl
  on_it true true false = refl
  on_it true false true = refl
  on_it true false false = refl
  on_it false s m = refl

  before_it : (o s m : Bool) → ((o && not (m && (false && s))) && not (false && s)) ≡ (o && not (false && s))
  before_it true s true = refl
  before_it true s false = refl
  before_it false s m = refl

  past_it : (o s m c : Bool) → ((o && not (m && (false && s))) && not (c && s)) ≡ (o && not (c && s))
  past_it true s true c = refl
  past_it true s false c = refl
  past_it false s m c = refl

-- where the mask is of one byte alone
pub masked_one : (o s : Bool) (byte b mask : ℕ) → mask ≤ 1 →
    (o && not (eqb (mask % 2) 1 && (eqb byte b && s))) ≡ (o && not ((leb byte b && has_bit mask (b - byte)) && s))
masked_one o s byte b mask le = elim (cases_order b byte) [
  | inl here ↦ (
      let e : has_bit mask (b - byte) ≡ eqb (mask % 2) 1 = ap (has_bit mask) (let z : b - byte ≡ 0 = omega arith in z) ∙ bit_lowest mask in
      rw (e, eq-eqb byte b (sym here), le-leb byte b (omega arith)) refl
      )
  | inr other ↦ elim other [
    | inl before ↦ rw (ne_eqb byte b (λ e. omega arith), lt-leb byte b (omega arith)) (none_it o s (eqb (mask % 2) 1))
    | inr past ↦ (
        let e : has_bit mask (b - byte) ≡ false = ap (has_bit mask) (let z : b - byte ≡ suc (b - (byte + 1)) = omega arith in z) ∙ bit_none mask (b - (byte + 1)) le in
        rw (e, ne_eqb byte b (λ e. omega arith), le-leb byte b (omega arith)) (none_it o s (eqb (mask % 2) 1))
        )
  ]
] where
  none_it : (o s m : Bool) → (o && not (m && (false && s))) ≡ (o && not (false && s))
  none_it true s true = refl
  none_it true s false = refl
  none_it false s m = refl

-- ---- what was put in is taken out again
back_it : (o t new : Bool) → (t ≡ true → new ≡ not o) → ((o || t) && not (new && t)) ≡ o
back_it true false true h = refl
back_it true false false h = refl
back_it false false new h = refl
back_it true true new h = rw (h refl) refl
back_it false true new h = rw (h refl) refl

pub taken_back : (old mid new : List Touch) (t : Touch) (fresh : Bool) → IsInOrder old → IsInOrder new
    → fresh ≡ not (has old t.byte t.hart t.role)
    → ((b h : ℕ) (r : Role) → has mid b h r ≡ (has old b h r || is_triple t b h r))
    → ((b h : ℕ) (r : Role) → has new b h r ≡ (has mid b h r && not (fresh && is_triple t b h r)))
    → new ≡ old
taken_back old mid new t fresh a z was put taken = same_triples new old z a (λ b h r.
    taken b h r
    ∙ ap (λ (m : Bool). m && not (fresh && is_triple t b h r)) (put b h r)
    ∙ back_it (has old b h r) (is_triple t b h r) fresh
    (λ e. was ∙ ap (λ (u : Touch). not (has old u.byte u.hart u.role)) (triple_is t b h r e)))

undo_it : (o l a s m : Bool) → (a ≡ true → s ≡ true → m ≡ (l && not o)) → ((o || ((a && l) && s)) && not ((a && m) && s)) ≡ o
undo_it true l false s m h = refl
undo_it false l false s m h = refl
undo_it true l true false true h = refl
undo_it true l true false false h = refl
undo_it false true true false m h = refl
undo_it false false true false m h = refl
undo_it true true true true m h = rw (h refl refl) refl
undo_it true false true true m h = rw (h refl refl) refl
undo_it false true true true m h = rw (h refl refl) refl
undo_it false false true true m h = refl

below_is : (addr b len : ℕ) → addr ≤ b → ltb (b - addr) len ≡ ltb b (addr + len)
below_is addr b len le = grind (arith, nat_tests)

pub undone : RemoveUndoesAdd
undone hart role addr len mask s t u os ou added new removed = same_triples u s ou os (λ b h r.
    removed b h r
    ∙ ap (λ (m : Bool). m && not (is_masked hart role addr mask b h r)) (added b h r)
    ∙ undo_it (has s b h r) (ltb b (addr + len)) (leb addr b) (eqb hart h && same_role role r) (has_bit mask (b - addr)) (λ a same.
    let le = leb-true addr b a in
    let parts = and_parts (eqb hart h) (same_role role r) same in
    let back : addr + (b - addr) ≡ b = omega arith in
    new (b - addr)
    ∙ (λ i. below_is addr b len le i && not (has s (back i) (eqb-true hart h parts.0 i) (same_role_is role r parts.1 i)))))

pub digit_from : (new : Bool) (n : ℕ) → n ≡ from_bool new → n ≡ cond new 1 0
digit_from true n is = is
digit_from false n is = is

-- the bytes after the first are as they were
pub mid_is : (old mid : List Touch) (t : Touch) (n : ℕ) → ((b h : ℕ) (r : Role) → has mid b h r ≡ (has old b h r || is_triple t b h r))
    → has mid (t.byte + 1 + n) t.hart t.role ≡ has old (t.byte + suc n) t.hart t.role
mid_is old mid t n put =
    put (t.byte + 1 + n) t.hart t.role
    ∙ ap (λ (e : Bool). has old (t.byte + 1 + n) t.hart t.role || (e && (eqb t.hart t.hart && same_role t.role t.role))) (ne_eqb t.byte (t.byte + 1 + n) (λ e. omega arith))
    ∙ or_none (has old (t.byte + 1 + n) t.hart t.role)
    ∙ ap (λ (b : ℕ). has old b t.hart t.role) (let z : t.byte + 1 + n ≡ t.byte + suc n = omega arith in z) where
      or_none : (o : Bool) → (o || false) ≡ o
      or_none true = refl
      or_none false = refl
