-- So many free offsets in a row, and free bytes.
use Rattle.std.proofs.Common.{◌≡◌, ℕ, zero, suc, ◌+◌, ◌-◌, ◌*◌, ◌/◌, ◌%◌, ◌<◌, ◌≤◌, ◌⊎◌, inl, inr, ◌↔◌, Bool, true, ◌&&◌, not, eqb, ltb, List, sym, ap, ◌∙◌, subst, arith}
use Rattle.std.proofs.lemmas.Bool.{and_parts, and_from, eqb-true, eq-eqb, ltb-true, lt-ltb, not-true}
use Rattle.rv_script.specs.declared.access.Role.{Role}
use Rattle.lane_bits.specs.Pages.{has as has_offset}
use Rattle.foot_map.specs.declared.touch.Touch.{Touch}
use Rattle.foot_map.specs.Races.{is_blocked, HasRoom}
use Rattle.foot_map.proofs.Blocking.{room_from, free_from}

-- four in a row are two pairs
pub four : (page pairs low both : ℕ → Bool) → ((x : ℕ) → both x ≡ (pairs x && low x)) → ((x : ℕ) → low x ≡ pairs (x + 2)) → ((x : ℕ) → pairs x ≡ (page x && page (x + 1)))
    → (len x : ℕ) → len ≡ 4 → (both x ≡ true) ↔ ((i : ℕ) → i < len → page (x + i) ≡ true)
four page pairs low both b l p len x is = (
  λ h i lt.
      let halves = and_parts (pairs x) (low x) (sym (b x) ∙ h) in
      let first = and_parts (page x) (page (x + 1)) (sym (p x) ∙ halves.0) in
      let second = and_parts (page (x + 2)) (page (x + 2 + 1)) (sym (p (x + 2)) ∙ sym (l x) ∙ halves.1) in
      let within : i < 4 = omega arith in
      pick page x i within first.0 first.1 second.0 second.1,
  λ h. b x ∙ and_from (pairs x) (low x)
      (p x ∙ and_from (page x) (page (x + 1)) (at page x 0 x (h 0 (omega arith)) (omega arith)) (h 1 (omega arith)))
      (l x ∙ p (x + 2) ∙ and_from (page (x + 2)) (page (x + 2 + 1)) (h 2 (omega arith)) (at page x 3 (x + 2 + 1) (h 3 (omega arith)) (omega arith))),
) where
  at : (page : ℕ → Bool) (x i y : ℕ) → page (x + i) ≡ true → y ≡ x + i → page y ≡ true
  at page x i y h same = ap page same ∙ h

  pick : (page : ℕ → Bool) (x i : ℕ) → i < 4 → page x ≡ true → page (x + 1) ≡ true → page (x + 2) ≡ true → page (x + 2 + 1) ≡ true → page (x + i) ≡ true
  pick page x zero lt h0 h1 h2 h3 = let e : x + zero ≡ x = omega arith in ap page e ∙ h0
  pick page x (suc zero) lt h0 h1 h2 h3 = h1
  pick page x (suc (suc zero)) lt h0 h1 h2 h3 = h2
  pick page x (suc (suc (suc zero))) lt h0 h1 h2 h3 = let e : x + suc (suc (suc zero)) ≡ x + 2 + 1 = omega arith in ap page e ∙ h3
  pick page x (suc (suc (suc (suc n)))) lt h0 h1 h2 h3 = absurd (omega arith)

pub record IsPosed (s : List Touch) (hart : ℕ) (role : Role) (frame len : ℕ) (blocked others starts multiples : List ℕ) : Type 0 where
  pub frame_is : frame % 4096 ≡ 0
  pub len_is : (len ≡ 1) ⊎ ((len ≡ 2) ⊎ (len ≡ 4))
  pub blocked_is : (x : ℕ) → x < 4096 → has_offset blocked x ≡ is_blocked s hart role (frame / 4096 * 4096 + x)
  pub others_are : (x : ℕ) → has_offset others x ≡ (ltb x 4096 && not (has_offset blocked x))
  pub starts_are : (x : ℕ) → (has_offset starts x ≡ true) ↔ ((i : ℕ) → i < len → has_offset others (x + i) ≡ true)
  pub multiples_are : (x : ℕ) → has_offset multiples x ≡ (ltb x 4096 && eqb (x % len) 0)

-- multiples in a frame
above_one : (frame x : ℕ) → frame % 4096 ≡ 0 → x % 1 ≡ 0 → x < 4096 → ((frame + x) % 1 ≡ 0) × (frame + x + 1 ≤ frame + 4096)
above_one frame x f is lt = (omega arith, omega arith)

above_two : (frame x : ℕ) → frame % 4096 ≡ 0 → x % 2 ≡ 0 → x < 4096 → ((frame + x) % 2 ≡ 0) × (frame + x + 2 ≤ frame + 4096)
above_two frame x f is lt = (omega arith, omega arith)

above_four : (frame x : ℕ) → frame % 4096 ≡ 0 → x % 4 ≡ 0 → x < 4096 → ((frame + x) % 4 ≡ 0) × (frame + x + 4 ≤ frame + 4096)
above_four frame x f is lt = (omega arith, omega arith)

above : (len frame x : ℕ) → (len ≡ 1) ⊎ ((len ≡ 2) ⊎ (len ≡ 4)) → frame % 4096 ≡ 0 → x % len ≡ 0 → x < 4096 → ((frame + x) % len ≡ 0) × (frame + x + len ≤ frame + 4096)
above len frame x (inl one) f = subst (λ (n : ℕ). x % n ≡ 0 → x < 4096 → ((frame + x) % n ≡ 0) × (frame + x + n ≤ frame + 4096)) (sym one) (above_one frame x f)
above len frame x (inr (inl two)) f = subst (λ (n : ℕ). x % n ≡ 0 → x < 4096 → ((frame + x) % n ≡ 0) × (frame + x + n ≤ frame + 4096)) (sym two) (above_two frame x f)
above len frame x (inr (inr quad)) f = subst (λ (n : ℕ). x % n ≡ 0 → x < 4096 → ((frame + x) % n ≡ 0) × (frame + x + n ≤ frame + 4096)) (sym quad) (above_four frame x f)

below_one : (frame a : ℕ) → frame % 4096 ≡ 0 → frame ≤ a → a % 1 ≡ 0 → (a - frame) % 1 ≡ 0
below_one frame a f le is = omega arith

below_two : (frame a : ℕ) → frame % 4096 ≡ 0 → frame ≤ a → a % 2 ≡ 0 → (a - frame) % 2 ≡ 0
below_two frame a f le is = omega arith

below_four : (frame a : ℕ) → frame % 4096 ≡ 0 → frame ≤ a → a % 4 ≡ 0 → (a - frame) % 4 ≡ 0
below_four frame a f le is = omega arith

below : (len frame a : ℕ) → (len ≡ 1) ⊎ ((len ≡ 2) ⊎ (len ≡ 4)) → frame % 4096 ≡ 0 → frame ≤ a → a % len ≡ 0 → (a - frame) % len ≡ 0
below len frame a (inl one) f le = subst (λ (n : ℕ). a % n ≡ 0 → (a - frame) % n ≡ 0) (sym one) (below_one frame a f le)
below len frame a (inr (inl two)) f le = subst (λ (n : ℕ). a % n ≡ 0 → (a - frame) % n ≡ 0) (sym two) (below_two frame a f le)
below len frame a (inr (inr quad)) f le = subst (λ (n : ℕ). a % n ≡ 0 → (a - frame) % n ≡ 0) (sym quad) (below_four frame a f le)

positive : (len : ℕ) → (len ≡ 1) ⊎ ((len ≡ 2) ⊎ (len ≡ 4)) → 0 < len
positive len (inl one) = omega arith
positive len (inr (inl two)) = omega arith
positive len (inr (inr quad)) = omega arith

pub room : (s : List Touch) (hart : ℕ) (role : Role) (frame len : ℕ) (blocked others starts multiples : List ℕ) → IsPosed s hart role frame len blocked others starts multiples
    → (x : ℕ) → x < 4096 → has_offset starts x ≡ true → has_offset multiples x ≡ true → HasRoom s hart role frame len
room s hart role frame len blocked others starts multiples p x lt start multiple =
    let parts = and_parts (ltb x 4096) (eqb (x % len) 0) (sym (p.multiples_are x) ∙ multiple) in
    let high = above len frame x p.len_is p.frame_is (eqb-true (x % len) 0 parts.1) lt in (
      frame + x,
      omega arith,
      high.1,
      high.0,
      room_from s hart role (frame + x) len (λ i within.
          let free = and_parts (ltb (x + i) 4096) (not (has_offset blocked (x + i))) (sym (p.others_are (x + i)) ∙ (p.starts_are x).0 start i within) in
          let at : frame + x + i ≡ frame / 4096 * 4096 + (x + i) = (let f = p.frame_is in omega arith) in
          ap (is_blocked s hart role) at ∙ sym (p.blocked_is (x + i) (ltb-true (x + i) 4096 free.0)) ∙ not-true (has_offset blocked (x + i)) free.1),
    )

pub room_back : (s : List Touch) (hart : ℕ) (role : Role) (frame len : ℕ) (blocked others starts multiples : List ℕ) → IsPosed s hart role frame len blocked others starts multiples
    → HasRoom s hart role frame len → (x : ℕ) × (has_offset starts x ≡ true) × (has_offset multiples x ≡ true)
room_back s hart role frame len blocked others starts multiples p h =
    let a = h.0 in
    let from : frame ≤ a = h.1 in
    let to : a + len ≤ frame + 4096 = h.2 in
    let some = positive len p.len_is in (
      a - frame,
      (p.starts_are (a - frame)).1 (λ i within.
          let at : frame / 4096 * 4096 + (a - frame + i) ≡ a + i = (let f = p.frame_is in omega arith) in
          let lt : a - frame + i < 4096 = omega arith in
          p.others_are (a - frame + i)
          ∙ and_from (ltb (a - frame + i) 4096) (not (has_offset blocked (a - frame + i))) (lt-ltb (a - frame + i) 4096 lt)
          (ap not (p.blocked_is (a - frame + i) lt ∙ ap (is_blocked s hart role) at ∙ free_from s hart role a len i within h.4))),
      p.multiples_are (a - frame) ∙ and_from (ltb (a - frame) 4096) (eqb ((a - frame) % len) 0) (lt-ltb (a - frame) 4096 (omega arith)) (eq-eqb ((a - frame) % len) 0 (below len frame a p.len_is p.frame_is from h.3)),
    )
