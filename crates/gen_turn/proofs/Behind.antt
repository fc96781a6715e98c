-- The test behind the page table entries that a fetch starts: its ground is that of the test before, and there is one such test.
use Rattle.std.proofs.Common.{◌≡◌, ◌⊎◌, ℕ, ◌<◌, Bool, true, false, if◌then◌else◌, List, [], ◌∷◌, length, None, Some, refl, sym, ap, ◌∙◌, subst, inl, inr, arith}
use Rattle.std.proofs.lemmas.Option.{same_Some}
use Rattle.rv_script.specs.declared.access.Access.{Access}
use Rattle.rv_script.specs.declared.place.Place.{Place}
use Rattle.rv_script.specs.declared.place.Place.TheVariants.{Reg, Csr, Word}
use Rattle.rv_script.specs.Folds.{Answer, Answer.Missing as Lacks, Known}
use Rattle.rv_script.specs.Logs.{same_place}
use Rattle.rv_hart.specs.declared.record.Change.{Change}
use Rattle.part_machine.specs.Whole.{Whole, hart_of}
use Rattle.part_state.specs.Meaning.{CanStart, IsNamed, IsStartable, IsTest, place_given}
use Rattle.turn_laws.specs.Given.{CanGive, all_given, given_to, known_at}
use Rattle.turn_laws.specs.Laws.{IsBeside}
use Rattle.turn_laws.proofs.Places.{beside, beside_one, known_one, test_one}
use Rattle.leaf_turn.specs.Answers.{AreAsked, ArePlaced}
use Rattle.gen_turn.specs.Drafts.{Drafted, at_test}
use Rattle.gen_turn.specs.Grounds.{IsGround, IsOfWords, IsSameGround}
use Rattle.gen_turn.proofs.Drafting.{ground_stays}
use Rattle.gen_turn.proofs.Elsewhere.{all_stay, all_words}

-- ---- its ground

pub ground_then : (a b c : Whole) → IsSameGround a b → IsSameGround b c → IsSameGround a c
ground_then a b c one two = record {
  harts = two.harts ∙ one.harts;
  names = two.names ∙ one.names;
  test = λ t. two.test (one.test t);
  words = λ j o. two.words j (one.words j o);
}

pub entered_ground : (k : ℕ) (new : Known) (old fetched : Whole) → ArePlaced k new old fetched → IsTest fetched → IsOfWords k fetched → IsSameGround old fetched
entered_ground k new old fetched placed test words =
    let b : IsBeside old fetched = subst (IsBeside old) (sym placed.is) (beside k placed.places old) in
    record {
      harts = b.harts;
      names = ap length b.names;
      test = λ before. test;
      words = all_words k old fetched (λ j other. ap (λ (w : Whole). hart_of j w) placed.is ∙ all_stay k j other placed.places old) words;
    }

pub fetched_ground : (d : Drafted) (k : ℕ) (new : Known) (fetched : Whole) → IsGround d k → ArePlaced k new d.now fetched → IsTest fetched → IsOfWords k fetched → IsGround (at_test d fetched) k
fetched_ground d k new fetched g placed test words = ground_stays d.template d.nodes d.now fetched (entered_ground k new d.now fetched placed test words) k g

-- ---- there is one

-- each new place is still to be given, or it is known
abbrev IsLeft : ℕ → Known → List (Place × ℕ) → Whole → Type 0
IsLeft k new es w = (place : Place) (v : ℕ) → IsNamed place → new place ≡ Some v → (given_to es place ≡ Some v) ⊎ (known_at k w place ≡ None → ⊥)

some_none : (v : ℕ) → None ≡ Some v → ⊥
some_none v h = absurd (cc h)

left_on : (k : ℕ) (new : Known) (e : Place × ℕ) (es : List (Place × ℕ)) (w : Whole) → IsTest w → k < length w.harts → CanGive k (e ∷ es) w → IsLeft k new (e ∷ es) w → IsLeft k new es (place_given k e.0 e.1 w)
left_on k new e es w test l can left place v named is = elim (left place v named is) [
  | inl given ↦ go (same_place e.0 place) refl given
  | inr known ↦ inr (λ none. still (same_place e.0 place) refl none known)
]
  where
    now : known_at k (place_given k e.0 e.1 w) place ≡ (if same_place e.0 place then Some e.1 else known_at k w place)
    now = known_one k e.0 e.1 w test l can.0 can.1 can.2 place named

    go : (b : Bool) → same_place e.0 place ≡ b → (if b then Some e.1 else given_to es place) ≡ Some v → (given_to es place ≡ Some v) ⊎ (known_at k (place_given k e.0 e.1 w) place ≡ None → ⊥)
    go true same h = inr (λ none. some_none e.1 (sym none ∙ now ∙ ap (λ (b : Bool). if b then Some e.1 else known_at k w place) same))
    go false same h = inl h

    still : (b : Bool) → same_place e.0 place ≡ b → known_at k (place_given k e.0 e.1 w) place ≡ None → (known_at k w place ≡ None → ⊥) → ⊥
    still true same none known = some_none e.1 (sym none ∙ now ∙ ap (λ (b : Bool). if b then Some e.1 else known_at k w place) same)
    still false same none known = known (sym (ap (λ (b : Bool). if b then Some e.1 else known_at k w place) same) ∙ sym now ∙ none)

named_of : (ram : List (ℕ × ℕ)) (place : Place) → IsStartable ram place → IsNamed place
named_of ram (Reg n) h = h.1
named_of ram (Csr addr) h = tt
named_of ram (Word addr) h = h.0

nothing_left : (k : ℕ) (new : Known) (f : Place × ℕ) (w : Whole) → CanStart k f.0 f.1 w → new f.0 ≡ Some f.1 → IsLeft k new [] w → ⊥
nothing_left k new f w can is left = elim (left f.0 f.1 (named_of w.ram f.0 can.startable) is) [
  | inl h ↦ some_none f.1 h
  | inr known ↦ known can.unknown
]

same_lacked : (p q : Place) → (let a : Answer Access Change = Lacks p in a) ≡ Lacks q → p ≡ q
same_lacked p q e = cc e

one_placing : (k : ℕ) (new : Known) (es fs : List (Place × ℕ)) (w : Whole) → IsTest w → k < length w.harts → CanGive k es w → CanGive k fs w → AreAsked k new es w → AreAsked k new fs w → IsLeft k new es w → IsLeft k new fs w → es ≡ fs
one_placing k new [] [] w test l can others a b left more = refl
one_placing k new [] (f ∷ fs) w test l can others a b left more = absurd (nothing_left k new f w others.0 b.1 left)
one_placing k new (e ∷ es) [] w test l can others a b left more = absurd (nothing_left k new e w can.0 a.1 more)
one_placing k new (e ∷ es) (f ∷ fs) w test l can others a b left more =
    let place : e.0 ≡ f.0 = same_lacked e.0 f.0 (sym a.0 ∙ b.0) in
    let value : e.1 ≡ f.1 = same_Some e.1 f.1 (sym a.1 ∙ ap new place ∙ b.1) in
    let head : e ≡ f = (λ i. (place i, value i)) in
    let many = (beside_one k e.0 e.1 w).harts in
    let rest : es ≡ fs = one_placing k new es fs (place_given k e.0 e.1 w) (test_one k e.0 e.1 w test l can.0 can.1 can.2) (omega (arith, l, many)) can.3
    (subst (λ (g : Place × ℕ). CanGive k fs (place_given k g.0 g.1 w)) (sym head) others.3) a.2
    (subst (λ (g : Place × ℕ). AreAsked k new fs (place_given k g.0 g.1 w)) (sym head) b.2) (left_on k new e es w test l can left)
    (subst (λ (g : Place × ℕ). IsLeft k new fs (place_given k g.0 g.1 w)) (sym head) (left_on k new f fs w test l others more)) in
    λ i. head i ∷ rest i

pub one_placed : (k : ℕ) (new : Known) (old one other : Whole) → IsTest old → k < length old.harts → ArePlaced k new old one → ArePlaced k new old other → one ≡ other
one_placed k new old one other test l a b =
    let lists : a.places ≡ b.places = one_placing k new a.places b.places old test l a.can b.can a.asked b.asked (λ place v named h. inl (a.listed place ∙ h)) (λ place v named h. inl (b.listed place ∙ h)) in
    a.is ∙ ap (λ (es : List (Place × ℕ)). all_given k es old) lists ∙ sym b.is
