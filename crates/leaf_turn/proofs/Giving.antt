-- Places of an answer that are given one by one.
use Rattle.std.proofs.Common.{◌≡◌, ℕ, ◌+◌, zero, suc, Option, None, slice_index_or, ◌-◌, ◌<◌, ◌≤◌, ◌⊎◌, List, [], ◌∷◌, ◌++◌, length, length-set, Some, refl, sym, ap, ◌∙◌, subst, inl, inr, arith}
use Rattle.std.proofs.Math.Path.{fun_ext}
use Rattle.rv_script.specs.declared.access.Access.{Access}
use Rattle.rv_script.specs.declared.place.Place.{Place}
use Rattle.rv_script.specs.declared.place.Place.TheVariants.{Reg, Csr, Word}
use Rattle.rv_script.specs.Folds.{Answer, Answer.Does, Answer.Missing as Lacks, Answer.Nowhere, Entry, Known}
use Rattle.rv_script.specs.Logs.{enlarged}
use Rattle.rv_hart.specs.declared.record.Change.{Change}
use Rattle.part_machine.specs.Whole.{Whole, bare_after, fixed_in, hart_of, next_of, record_in, stepped}
use Rattle.rv_hart.specs.Fixed.{Fixed}
use Rattle.rv_hart.specs.Whole.{record_of}
use Rattle.rv_hart.specs.declared.record.Record.{Record}
use Rattle.part_state.specs.Meaning.{CanStart, IsTest, place_given}
use Rattle.foot_map.specs.declared.clash.Clash.{Clash as AClash}
use Rattle.part_state.specs.Probing.{IsProbe}
use Rattle.part_state.specs.declared.probe.Probe.{Probe}
use Rattle.part_state.specs.declared.probe.Probe.TheVariants.{Clash, Missing, Outside, Ready}
use Rattle.leaf_link.specs.Values.{Values}
use Rattle.turn_laws.specs.Ahead.{AreAmong, IsUnderway, LogsAreShort, OneMoreIsGiven, PlacesAreNext, unknown_in}
use Rattle.turn_laws.specs.Laws.{PlayedStepsAreNext, FixedPartsStay, GivenPlacesAreKnown, GivenTestsAreTests, IsTaken, OthersStay}
use Rattle.turn_laws.specs.Given.{CanGive, all_given, given_to, known_at, turn_at}
use Rattle.leaf_turn.specs.declared.taking.Fetch.{Fetch}
use Rattle.leaf_turn.specs.Answers.{AreAsked, AreGiven, IsPlayable, IsStill, IsTakenBy, new_at, started_with, walk_of}
use Rattle.leaf_link.specs.Candidates.{accesses_in, registers_from}

-- some of the places are given, and so many at most are left
pub record AreGoing (k : ℕ) (x : Values) (left : ℕ) (old now : Whole) : Type 0 where
  pub places : List (Place × ℕ)
  pub can : CanGive k places old
  pub among : AreAmong places (new_at k old x)
  pub asked : AreAsked k (new_at k old x) places old
  pub is : now ≡ all_given k places old
  pub few : (fetch : Fetch) (f : IsPlayable k old fetch x) → unknown_in (enlarged (known_at k old) (given_to places)) f.log ≤ left

pub begun : (k : ℕ) (x : Values) (w : Whole) → LogsAreShort → AreGoing k x 10 w w
begun k x w short = record {
  places = [];
  can = tt;
  among = λ place v h. absurd (cc);
  asked = tt;
  is = refl;
  few = λ fetch f. short (turn_at f.setting f.feet k w) (new_at k w x) (enlarged (known_at k w) (given_to [])) f.log f.change f.played;
}

-- one place more, which is what the step lacks behind those before it
pub asked_more : (k : ℕ) (new : Known) (es : List (Place × ℕ)) (place : Place) (v : ℕ) (w : Whole) → AreAsked k new es w → next_of k (all_given k es w) ≡ Lacks place → new place ≡ Some v → AreAsked k new (es ++ (place, v) ∷ []) w
asked_more k new [] place v w asked lacks is = (lacks, is, tt)
asked_more k new (e ∷ es) place v w asked lacks is = (asked.0, asked.1, asked_more k new es place v (place_given k e.0 e.1 w) asked.2 lacks is)

-- where the next step lacks a place, the place can start with the answer's value, and then one less is left
pub record IsGoingOn (k : ℕ) (fetch : Fetch) (x : Values) (left : ℕ) (old now : Whole) (place : Place) : Type 0 where
  pub some : 0 < left
  pub can : CanStart k place (started_with (walk_of k old x) x fetch place) now
  pub going : AreGoing k x (left - 1) old (place_given k place (started_with (walk_of k old x) x fetch place) now)

pub going_on : (k : ℕ) (fetch : Fetch) (x : Values) (left : ℕ) (old now : Whole) (place : Place) → PlacesAreNext → OneMoreIsGiven → IsTest old → k < length old.harts → IsPlayable k old fetch x
    → AreGoing k x left old now → next_of k now ≡ Lacks place → IsGoingOn k fetch x left old now place
going_on k fetch x left old now place next appended test l f g lacks =
    let value : ℕ = started_with (walk_of k old x) x fetch place in
    let new : Known = new_at k old x in
    let first : next_of k (all_given k g.places old) ≡ Lacks place = ap (λ (w : Whole). next_of k w) (sym g.is) ∙ lacks in
    let u = next f.setting f.feet k old new g.places f.log f.change test l f.aligned f.vectors g.can g.among f.played in
    let n = u.lacks place first in
    let is : n.value ≡ value = f.values place n.value n.new_is in
    let new_is : new place ≡ Some value = n.new_is ∙ ap (λ (v : ℕ). Some v) is in
    let more = u.among place value first new_is in
    let fewer = u.fewer place value first new_is in
    let few = g.few fetch f in
    let can : CanStart k place value (all_given k g.places old) = subst (λ (v : ℕ). CanStart k place v (all_given k g.places old)) is n.can in
    record {
      some = omega (arith, fewer, few);
      can = subst (λ (w : Whole). CanStart k place value w) (sym g.is) can;
      going = record {
        places = g.places ++ (place, value) ∷ [];
        can = more.1;
        among = more.0;
        asked = asked_more k new g.places place value old g.asked first new_is;
        is = ap (λ (w : Whole). place_given k place value w) g.is ∙ sym (appended k g.places place value old);
        few = λ how h.
            let one = (next h.setting h.feet k old new g.places h.log h.change test l h.aligned h.vectors g.can g.among h.played).fewer place value first new_is in
            let all = g.few how h in
            omega (arith, one, all);
      };
    }

-- where it lacks none, all are given
pub all_are_given : (k : ℕ) (fetch : Fetch) (x : Values) (left : ℕ) (old now : Whole) → PlacesAreNext → IsTest old → k < length old.harts → IsPlayable k old fetch x
    → AreGoing k x left old now → ((place : Place) → next_of k now ≡ Lacks place → ⊥) → AreGiven k x old now
all_are_given k fetch x left old now next test l f g none = go (next_of k (all_given k g.places old)) refl
  where
    same : next_of k now ≡ next_of k (all_given k g.places old)
    same = ap (λ (w : Whole). next_of k w) g.is

    under : IsUnderway k old (new_at k old x) g.places f.log
    under = next f.setting f.feet k old (new_at k old x) g.places f.log f.change test l f.aligned f.vectors g.can g.among f.played

    go : (a : Answer Access Change) → next_of k (all_given k g.places old) ≡ a → AreGiven k x old now
    go (Does xs c) e = record { places = g.places; can = g.can; listed = under.listed xs c e; asked = g.asked; is = g.is }
    go (Lacks place) e = absurd (none place (same ∙ e))
    go Nowhere e = absurd (under.somewhere e)

-- THE STEP
pub ready : (k : ℕ) (fetch : Fetch) (x : Values) (old now : Whole) → PlayedStepsAreNext → IsTest old → k < length old.harts → (f : IsPlayable k old fetch x) → AreGiven k x old now → IsTaken k f.log f.change now
ready k fetch x old now steps test l f g =
    subst (λ (w : Whole). IsTaken k f.log f.change w) (sym g.is) (steps f.setting f.feet k old (new_at k old x) g.places f.log f.change test l f.footprint g.can g.listed f.played)

pub taken_by : (k : ℕ) (fetch : Fetch) (x : Values) (r : Record) (old now new : Whole) → PlayedStepsAreNext → FixedPartsStay → IsTest old → k < length old.harts → IsPlayable k old fetch x → AreGiven k x old now
    → ((xs : List Access) (c : Change) → next_of k now ≡ Does xs c → new ≡ stepped k xs c now)
    → ((xs : List Access) (c : Change) → next_of k now ≡ Does xs c → r ≡ record_in (hart_of k now) now.memory xs c)
    → IsTakenBy k x r old new
taken_by k fetch x r old now new steps fixed test l f g goes records =
    let t = ready k fetch x old now steps test l f g in
    let same : fixed_in (hart_of k now) now.memory ≡ fixed_in (hart_of k old) old.memory =
    ap (λ (w : Whole). fixed_in (hart_of k w) w.memory) g.is ∙ fixed k g.places old test l g.can in
    record {
      given = now;
      places = g;
      log = f.log;
      change = f.change;
      plays = f.played.plays;
      now = goes (accesses_in f.log) f.change t.next;
      record_is = records (accesses_in f.log) f.change t.next ∙ ap (λ (h : Fixed). record_of h (accesses_in f.log) f.change) same;
    }

pub harts_stay : (k : ℕ) (x : Values) (old now : Whole) → OthersStay → (places : List (Place × ℕ)) → now ≡ all_given k places old → k < length old.harts → k < length now.harts
harts_stay k x old now others places is l =
    let b = others k places old in
    subst (λ (w : Whole). k < length w.harts) (sym is) (omega (arith, l, b.harts))

-- what an answer to a probe says, where it is not that a place is missing
pub lacks_none : (k : ℕ) (w : Whole) (p : Probe) → IsProbe k w p → ((place : Place) → p ≡ Missing place → ⊥) → (place : Place) → next_of k w ≡ Lacks place → ⊥
lacks_none k w (Ready r) is other place h = let d = is.0.does in absurd (cc)
lacks_none k w (Missing q) is other place h = absurd (other q refl)
lacks_none k w Outside is other place h = let d : next_of k w ≡ Nowhere = is in absurd (cc)
lacks_none k w (Clash t) is other place h = let d = is.0.does in absurd (cc)

pub not_missing : (p : Probe) → (((r : Record) × (p ≡ Ready r)) ⊎ ((p ≡ Outside) ⊎ ((t : AClash) × (p ≡ Clash t)))) → (place : Place) → p ≡ Missing place → ⊥
not_missing (Ready r) i place h = absurd (cc)
not_missing (Missing q) (inl (r, e)) place h = absurd (cc)
not_missing (Missing q) (inr (inl e)) place h = absurd (cc)
not_missing (Missing q) (inr (inr (t, e))) place h = absurd (cc)
not_missing Outside i place h = absurd (cc)
not_missing (Clash t) i place h = absurd (cc)

-- ---- what stays

pub ram_stays : (k : ℕ) (es : List (Place × ℕ)) (w : Whole) → (all_given k es w).ram ≡ w.ram
ram_stays k [] w = refl
ram_stays k (e ∷ es) w = ram_stays k es (place_given k e.0 e.1 w) ∙ one e.0
  where
    one : (place : Place) → (place_given k place e.1 w).ram ≡ w.ram
    one (Reg n) = refl
    one (Csr addr) = refl
    one (Word addr) = refl

pub same_change : (a b : List Entry) (c d : Change) → (let r : Answer Entry Change = Does a c in r) ≡ Does b d → c ≡ d
same_change a b c d e = cc e

pub still : (k : ℕ) (x : Values) (r : Record) (old new : Whole) → OthersStay → IsTakenBy k x r old new → IsStill old new
still k x r old new others t =
    let places = t.places.places in
    let b = others k places old in
    let given : Whole = all_given k places old in
    let is : new ≡ stepped k (accesses_in t.log) t.change given = t.now ∙ ap (λ (w : Whole). stepped k (accesses_in t.log) t.change w) t.places.is in
    record {
      ram = ap (λ (w : Whole). w.ram) is ∙ ram_stays k places old;
      names = ap (λ (w : Whole). w.names) is ∙ b.names;
      choices = ap (λ (w : Whole). w.choices) is ∙ b.choices;
      dropped = ap (λ (w : Whole). w.dropped) is ∙ b.dropped;
      harts = ap (λ (w : Whole). length w.harts) is ∙ length-set given.harts k (bare_after t.change (hart_of k given)) ∙ b.harts;
    }

-- ---- the registers before the step

listed : (xs : List (Option ℕ)) (f : Known) (first n : ℕ) → length xs ≡ n → ((i : ℕ) → i < n → slice_index_or xs i None ≡ f (Reg (first + i))) → xs ≡ registers_from f first n
listed [] f first zero same is = refl
listed [] f first (suc n) same is = absurd (omega (arith, same))
listed (x ∷ xs) f first zero same is = absurd (omega (arith, same))
listed (x ∷ xs) f first (suc n) same is =
    ap (λ (y : Option ℕ). y ∷ xs) (is 0 (omega arith) ∙ ap (λ (m : ℕ). f (Reg m)) (omega arith))
    ∙ ap (λ (ys : List (Option ℕ)). f (Reg first) ∷ ys) (listed xs f (suc first) n (omega (arith, same)) (λ i less. is (suc i) (omega (arith, less)) ∙ ap (λ (m : ℕ). f (Reg m)) (omega arith)))

-- those of the test on which the places were given are what was known, with what was given
pub registers_before : (k : ℕ) (x : Values) (old given : Whole) (regs : List (Option ℕ)) → GivenPlacesAreKnown → GivenTestsAreTests → OthersStay → IsTest old → k < length old.harts → AreGiven k x old given
    → regs ≡ (hart_of k given).regs → regs ≡ registers_from (enlarged (known_at k old) (new_at k old x)) 0 32
registers_before k x old given regs known tests others test l g is =
    let after : Whole = all_given k g.places old in
    let fit = (tests k g.places old test l g.can).fit k (harts_stay k x old after others g.places refl l) in
    let same : given_to g.places ≡ new_at k old x = fun_ext g.listed in
    is ∙ ap (λ (w : Whole). (hart_of k w).regs) g.is
    ∙ listed (hart_of k after).regs (enlarged (known_at k old) (new_at k old x)) 0 32 fit.size
    (λ i less. known k g.places old test l g.can (Reg i) less ∙ ap (λ (new : Known). enlarged (known_at k old) new (Reg i)) same
    ∙ ap (λ (m : ℕ). enlarged (known_at k old) (new_at k old x) (Reg m)) (omega arith))
