-- Tests that still stand.
use Rattle.std.proofs.Common.{◌≡◌, ℕ, ◌+◌, List, [], ◌∷◌, ◌++◌, length, take, refl, sym, ap, ◌∙◌, arith}
use Rattle.part_state.specs.State.{State, Test, tests}
use Rattle.leaf_turn.specs.Answers.{AreKept}

associate : {A : Type 0} (xs ys zs : List A) → (xs ++ ys) ++ zs ≡ xs ++ (ys ++ zs)
associate [] ys zs = refl
associate (x ∷ xs) ys zs = ap (λ (l : List _). x ∷ l) (associate xs ys zs)

nothing_behind : {A : Type 0} (xs : List A) → xs ++ [] ≡ xs
nothing_behind [] = refl
nothing_behind (x ∷ xs) = ap (λ (l : List _). x ∷ l) (nothing_behind xs)

pub kept_same : (s : State) → AreKept s s
kept_same s = record { more = []; behind = sym (nothing_behind (tests s)) }

-- one change more, which keeps what stood
pub kept_more : (old now new : State) → AreKept old now → new.earlier ≡ now.earlier ++ now.now ∷ [] → AreKept old new
kept_more old now new k is = record {
  more = k.more ++ new.now ∷ [];
  behind = ap (λ (l : List Test). l ++ new.now ∷ []) (is ∙ k.behind) ∙ associate (tests old) k.more (new.now ∷ []);
}

pub kept_then : (old now new : State) → AreKept old now → AreKept now new → AreKept old new
kept_then old now new k l = record {
  more = k.more ++ l.more;
  behind = l.behind ∙ ap (λ (m : List Test). m ++ l.more) k.behind ∙ associate (tests old) k.more l.more;
}

take_front : {A : Type 0} (xs ys : List A) → take (length xs) (xs ++ ys) ≡ xs
take_front [] ys = refl
take_front (x ∷ xs) ys = ap (λ (l : List _). x ∷ l) (take_front xs ys)

length_last : {A : Type 0} (xs : List A) (x : A) → length (xs ++ x ∷ []) ≡ length xs + 1
length_last [] x = refl
length_last (y ∷ xs) x = let h = length_last xs x in omega (arith, h)

last_same : {A : Type 0} (xs ys : List A) (x y : A) → xs ++ x ∷ [] ≡ ys ++ y ∷ [] → (xs ≡ ys) × (x ≡ y)
last_same [] [] x y h = (refl, cc)
last_same [] (b ∷ []) x y h = absurd (cc)
last_same [] (b ∷ c ∷ ys) x y h = absurd (cc)
last_same (a ∷ []) [] x y h = absurd (cc)
last_same (a ∷ c ∷ xs) [] x y h = absurd (cc)
last_same {A} (a ∷ xs) (b ∷ ys) x y h =
    let first : a ≡ b = cc in
    let rest : xs ++ x ∷ [] ≡ ys ++ y ∷ [] = cc in
    let r = last_same xs ys x y rest in
    (ap (λ (l : List A). a ∷ l) r.0 ∙ ap (λ (z : A). z ∷ ys) first, r.1)

same_tests : (s t : State) → tests s ≡ tests t → s ≡ t
same_tests s t h =
    let r = last_same s.earlier t.earlier s.now t.now h in
    ap (λ (e : List Test). record { now = s.now; earlier = e }) r.0 ∙ ap (λ (n : Test). record { now = n; earlier = t.earlier }) r.1

-- going back to the number of a test that was kept is going back to it
pub back : (old now new : State) → AreKept old now → tests new ≡ take (length old.earlier + 1) (tests now) → new ≡ old
back old now new k h =
    same_tests new old
    (h ∙ ap (λ (n : ℕ). take n (tests now)) (sym (length_last old.earlier old.now)) ∙ ap (λ (l : List Test). take (length (tests old)) l) k.behind ∙ take_front (tests old) k.more)
