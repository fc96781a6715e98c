-- A whole as data, and back.
use Rattle.std.proofs.Common.{◌≡◌, ℕ, ◌+◌, ◌<◌, ◌/◌, arith, length, Bool, true, false, ◌&&◌, eqb, if◌then◌else◌, List, [], ◌∷◌, ◌++◌, map, take, Option, Some, None, refl, sym, ap, ◌∙◌, subst, inl, inr}
use Rattle.std.specs.Prelude.{option_map}
use Rattle.std.specs.List.{list_any}
use Rattle.std.specs.Option.{option_or, is_some, unwrap_or}
use Rattle.std.proofs.lemmas.Bool.{cases_Bool, eqb-true, eq-eqb, and_parts, and_from, or_cases, or_left, or_right}
use Rattle.std.proofs.lemmas.List.{map-append, take-map}
use Rattle.rv_mem.specs.declared.words.Seen.{Seen}
use Rattle.rv_mem.specs.declared.words.Seen.TheVariants.{Known as KnownWord, Untouched, Vacant}
use Rattle.rv_mem.specs.Part.{valued}
use Rattle.rv_mem.specs.Ram.{in_ram}
use Rattle.rv_mem.specs.Seen.{known_word, is_there}
use Rattle.rv_script.specs.declared.access.Access.{Access}
use Rattle.rv_script.specs.declared.access.Role.{Role}
use Rattle.rv_script.specs.Bytes.{covers}
use Rattle.rv_script.specs.Lists.{HasItem}
use Rattle.foot_map.specs.Order.{rank}
use Rattle.foot_map.specs.Touches.{same_role}
use Rattle.foot_map.proofs.Orders.{same_role_is}
use Rattle.tpl_admit.specs.Races.{footprint_of}
use Rattle.part_state.specs.declared.logged.Logged.{Logged}
use Rattle.part_machine.specs.Whole.{Whole, History, HasHart, given, records_of, wholes}
use Rattle.part_state.specs.Meaning.{IsTest}
use Rattle.part_state.specs.Internal.Parts.{history, now_of, IsKept}
use Rattle.part_state.specs.State.{Test, State, tests, feet_of, whole, here, data_of, state_in}
use Rattle.part_state.proofs.Kept.{now_test}
use Rattle.part_machine.proofs.Undoing.{same_whole}

-- values of now for the given words
given_now : (f : ℕ → ℕ) (es : List (ℕ × ℕ)) (n : ℕ) → given (map (λ (e : ℕ × ℕ). (e.0, f e.0)) es) n ≡ option_map (λ v. f n) (given es n)
given_now f [] n = refl
given_now f (e ∷ es) n =
    ap (λ (o : Option ℕ). option_or o (if eqb n e.0 then Some (f e.0) else None)) (given_now f es n)
    ∙ elim (cases_Bool (eqb n e.0)) [
      | inl t ↦ rw t (ap (λ (i : ℕ). option_or (option_map (λ v. f n) (given es n)) (Some (f i))) (sym (eqb-true n e.0 t)) ∙ some (given es n))
      | inr u ↦ rw u (none (given es n))
    ]
  where
    some : (o : Option ℕ) → option_or (option_map (λ v. f n) o) (Some (f n)) ≡ option_map (λ v. f n) (option_or o (Some e.1))
    some None = refl
    some (Some v) = refl

    none : (o : Option ℕ) → option_or (option_map (λ v. f n) o) None ≡ option_map (λ v. f n) (option_or o None)
    none None = refl
    none (Some v) = refl

seen_again : (s : Seen) (o : Option ℕ) (b : Bool) → is_some (known_word s) ≡ is_some o → is_there s ≡ b → (if b then valued (option_map (λ v. unwrap_or (known_word s) 0) o) else Vacant) ≡ s
seen_again (KnownWord w) (Some v) true k t = refl
seen_again (KnownWord w) (Some v) false k t = absurd (cc t)
seen_again (KnownWord w) None b k t = absurd (cc k)
seen_again Untouched (Some v) b k t = absurd (cc k)
seen_again Untouched None true k t = refl
seen_again Untouched None false k t = absurd (cc t)
seen_again Vacant (Some v) b k t = absurd (cc k)
seen_again Vacant None true k t = absurd (cc t)
seen_again Vacant None false k t = refl

any_touch : (xs : List Access) (b : ℕ) (r : Role) → list_any (λ x. same_role x.role r && covers x b) xs ≡ true → (x : Access) × HasItem xs x × (x.role ≡ r) × (covers x b ≡ true)
any_touch [] b r t = absurd (cc t)
any_touch (x ∷ xs) b r t = elim (or_cases (same_role x.role r && covers x b) _ t) [
  | inl here ↦ let p = and_parts (same_role x.role r) (covers x b) here in (x, inl refl, same_role_is x.role r p.0, p.1)
  | inr later ↦ let y = any_touch xs b r later in (y.0, inr y.1, y.2, y.3)
]

touch_any : (xs : List Access) (x : Access) (b : ℕ) (r : Role) → HasItem xs x → x.role ≡ r → covers x b ≡ true → list_any (λ y. same_role y.role r && covers y b) xs ≡ true
touch_any [] x b r i e c = absurd i
touch_any (y ∷ xs) x b r i e c = elim i [
  | inl here ↦ or_left _ _ (subst (λ (z : Access). (same_role z.role r && covers z b) ≡ true) (sym here)
      (and_from _ _ (subst (λ (q : Role). same_role x.role q ≡ true) e (eq-eqb (rank x.role) (rank x.role) refl)) c))
  | inr later ↦ or_right _ _ (touch_any xs x b r later e c)
]

same_bool : (a b : Bool) → (a ≡ true → b ≡ true) → (b ≡ true → a ≡ true) → a ≡ b
same_bool true b f g = sym (f refl)
same_bool false true f g = g refl
same_bool false false f g = refl

-- nothing is lost
pub whole_again : (w : Whole) → IsTest w → whole (data_of w) ≡ w
whole_again w test = same_whole (whole (data_of w)) w (record {
  ram = refl;
  first = refl;
  words = refl;
  traces = refl;
  harts = refl;
  memory = λ n.
      ap (λ (o : Option ℕ). if in_ram w.ram n then valued o else Vacant) (given_now (λ i. unwrap_or (known_word (w.memory i)) 0) w.words n)
      ∙ seen_again (w.memory n) (given w.words n) (in_ram w.ram n) (test.test.known n) (test.there n);
  feet = λ b h r. same_bool (feet_of w.traces b h r) (w.feet b h r)
      (λ t. (test.foot b h r).1 (any_touch (footprint_of (records_of h w)) b r t))
      (λ t. let x = (test.foot b h r).0 t in touch_any (footprint_of (records_of h w)) x.0 b r x.1 x.2 x.3);
  names = refl;
  choices = refl;
  dropped = refl;
})

pub here_is : (p : Logged) → IsKept p → here (state_in (history p)) ≡ now_of p
here_is p kept = whole_again (now_of p) (now_test _ (now_of p) kept.tests)

pub here_for : (s : State) (p : Logged) → state_in (history p) ≡ s → IsKept p → here s ≡ now_of p
here_for s p is kept = ap (λ (t : State). here t) (sym is) ∙ here_is p kept

pub here_test : (s : State) (p : Logged) → state_in (history p) ≡ s → IsKept p → IsTest (here s)
here_test s p is kept = subst IsTest (sym (here_for s p is kept)) (now_test _ (now_of p) kept.tests)

-- the test is told by its whole
pub told_by_whole : (s : State) (p : Logged) → state_in (history p) ≡ s → IsKept p → s.now ≡ data_of (here s)
told_by_whole s p is kept = sym (ap (λ (t : State). t.now) is) ∙ ap data_of (sym (here_for s p is kept))

-- a change
pub changed_here : (f : Whole → Whole) (s : State) (p p' : Logged) → state_in (history p) ≡ s → IsKept p → IsKept p' → now_of p' ≡ f (now_of p) → here (state_in (history p')) ≡ f (here s)
changed_here f s p p' is kept kept' e = here_is p' kept' ∙ e ∙ ap f (sym (here_for s p is kept))

pub changed_earlier : (s : State) (p p' : Logged) → state_in (history p) ≡ s → (history p').earlier ≡ (history p).earlier ++ now_of p ∷ [] → (state_in (history p')).earlier ≡ s.earlier ++ s.now ∷ []
changed_earlier s p p' is e =
    ap (λ (ws : List Whole). map data_of ws) e ∙ map-append data_of (history p).earlier (now_of p ∷ []) ∙ ap (λ (t : State). t.earlier ++ t.now ∷ []) is

pub changed_not : (s : State) (p p' : Logged) → state_in (history p) ≡ s → history p' ≡ history p → state_in (history p') ≡ s
changed_not s p p' is e = ap state_in e ∙ is

all_tests : (h : History) → tests (state_in h) ≡ map data_of (wholes h)
all_tests h = sym (map-append data_of h.earlier (h.now ∷ []))

pub changed_back : (mark : ℕ) (s : State) (p p' : Logged) → state_in (history p) ≡ s → wholes (history p') ≡ take (mark + 1) (wholes (history p)) → tests (state_in (history p')) ≡ take (mark + 1) (tests s)
changed_back mark s p p' is e =
    all_tests (history p')
    ∙ ap (λ (ws : List Whole). map data_of ws) e
    ∙ sym (take-map data_of (mark + 1) (wholes (history p)))
    ∙ ap (λ (ts : List Test). take (mark + 1) ts) (sym (all_tests (history p)) ∙ ap (λ (t : State). tests t) is)

pub has_hart : (s : State) (p : Logged) → state_in (history p) ≡ s → IsKept p → (k : ℕ) → k < length s.now.harts → HasHart k (now_of p)
has_hart s p is kept k l =
    let test : IsTest (now_of p) = now_test _ (now_of p) kept.tests in
    let same : length (now_of p).harts ≡ length s.now.harts = ap (λ (t : State). length t.now.harts) is in
    record { first = omega (arith, l, same, test.first); now = omega (arith, l, same); trace = omega (arith, l, same, test.traces) }

-- what holds of the machine holds of the data
pub told_here : (P : Whole → Type 0) (s : State) (p : Logged) → state_in (history p) ≡ s → IsKept p → P (now_of p) → P (here s)
told_here P s p is kept t = subst P (sym (here_for s p is kept)) t

pub told_there : (P : Whole → Type 0) (s : State) (p : Logged) → state_in (history p) ≡ s → IsKept p → P (here s) → P (now_of p)
told_there P s p is kept t = subst P (here_for s p is kept) t

-- an untouched word is one of RAM
pub untouched_there : (addr : ℕ) (w : Whole) → IsTest w → w.memory (addr / 4) ≡ Untouched → in_ram w.ram (addr / 4) ≡ true
untouched_there addr w test e = sym (test.there (addr / 4)) ∙ ap is_there e
