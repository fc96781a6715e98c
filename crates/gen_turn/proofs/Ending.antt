-- What stays to the end of a search.
use Rattle.std.proofs.Common.{◌≡◌, ℕ, List, [], ◌∷◌, length, length-set, Bool, refl, sym, ap, ◌∙◌, subst}
use Rattle.std.specs.Prelude.{Vec}
use Rattle.std.specs.Global.{Global}
use Rattle.rv_script.specs.declared.place.Place.{Place}
use Rattle.rv_script.specs.declared.place.Place.TheVariants.{Reg, Csr, Word}
use Rattle.tpl_ast.specs.declared.template.Item.{Item}
use Rattle.tpl_ast.specs.declared.template.Wish.{Wish}
use Rattle.part_machine.specs.Whole.{Whole}
use Rattle.part_state.specs.Meaning.{place_given}
use Rattle.fd_solve.specs.declared.answers.Solved.{Solved}
use Rattle.fd_solve.specs.declared.answers.Solved.TheVariants as answers
use Rattle.leaf_link.specs.Values.{Values}
use Rattle.turn_laws.specs.Given.{all_given}
use Rattle.gen_search.specs.declared.draws.Tally.{Tally}
use Rattle.gen_search.specs.Search.{ComesTo, ComesTo.done, ComesTo.gave_up, ComesTo.again, Done, IsLeaf, IsLeaf.leaf, IsLeaf.fault, NoTest, Outcome, Finished, Dead, GaveUp, SearchResult, Tries, Tries.none_left, Tries.leads, Tries.stops, Tries.goes_on, Turned, Turned.Taken, Turned.NoneFits, Turned.Spent, Walks, Walks.finished, Walks.gives_up, Walks.taken, Walks.unfit, Walks.too_large, Walks.label, Walks.seq, Walks.rep, Walks.choose}
use Rattle.gen_turn.specs.Drafts.{Drafted, at_test}
use Rattle.gen_turn.specs.Generating.{IsOfStart}
use Rattle.gen_turn.specs.Rules.{Shown, draft_of, draft_rules, turn_shown}
use Rattle.gen_turn.specs.Turns.{EndsAs, GoesOn, IsLeafTaken, IsTurnedTo}

-- ---- wholes

pub record Stays (old new : Whole) : Type 0 where
  pub ram : new.ram ≡ old.ram
  pub harts : length new.harts ≡ length old.harts

stays_then : (a b c : Whole) → Stays a b → Stays b c → Stays a c
stays_then a b c one two = record { ram = two.ram ∙ one.ram; harts = two.harts ∙ one.harts }

one_given : (k : ℕ) (place : Place) (v : ℕ) (w : Whole) → Stays w (place_given k place v w)
one_given k (Reg n) v w = record { ram = refl; harts = length-set w.harts k _ }
one_given k (Csr addr) v w = record { ram = refl; harts = length-set w.harts k _ }
one_given k (Word addr) v w = record { ram = refl; harts = refl }

given_stays : (k : ℕ) (es : List (Place × ℕ)) (w : Whole) → Stays w (all_given k es w)
given_stays k [] w = record { ram = refl; harts = refl }
given_stays k (e ∷ es) w = stays_then w (place_given k e.0 e.1 w) (all_given k es (place_given k e.0 e.1 w)) (one_given k e.0 e.1 w) (given_stays k es (place_given k e.0 e.1 w))

by_same : (old mid new : Whole) → new ≡ mid → Stays old mid → Stays old new
by_same old mid new is stays = subst (Stays old) (sym is) stays

taken_stays : (k : ℕ) (ws : List Wish) (dropped : List (ℕ × Bool)) (x : Values) (old after : Whole) → IsLeafTaken k ws dropped x old after → Stays old after
taken_stays k ws dropped x old after l =
    let given : Stays old l.taken.given = by_same old _ l.taken.given l.taken.places.is (given_stays k l.taken.places.places old) in
    let stepped : Stays l.taken.given l.stepped = by_same l.taken.given _ l.stepped l.taken.now (record { ram = refl; harts = length-set l.taken.given.harts k _ }) in
    let all = stays_then old l.taken.given l.stepped given stepped in
    record { ram = ap (λ (w : Whole). w.ram) l.is ∙ all.ram; harts = ap (λ (w : Whole). length w.harts) l.is ∙ all.harts }

-- ---- turns

pub record IsSameStart (d e : Drafted) : Type 0 where
  pub template : e.template ≡ d.template
  pub nodes : e.nodes ≡ d.nodes
  pub stays : Stays d.now e.now

abbrev pub StartIsKept : Drafted → Turned Drafted → Type 0
StartIsKept d (Taken e) = IsSameStart d e
StartIsKept d NoneFits = Unit {0}
StartIsKept d Spent = Unit {0}

ended_keeps : (d : Drafted) (k : ℕ) (ws : List Wish) (dropped : List (ℕ × Bool)) (s : Solved) (r : Turned Drafted) → EndsAs d k ws dropped s r → StartIsKept d r
ended_keeps d k ws dropped (answers.Found x) r ends = subst (StartIsKept d) (sym ends.2) (record { template = refl; nodes = refl; stays = taken_stays k ws dropped _ d.now ends.0 ends.1 })
ended_keeps d k ws dropped answers.NoneFits r ends = subst (StartIsKept d) (sym ends) tt
ended_keeps d k ws dropped answers.Spent r ends = subst (StartIsKept d) (sym ends) tt

behind : (d : Drafted) (fetched : Whole) (r : Turned Drafted) → Stays d.now fetched → StartIsKept (at_test d fetched) r → StartIsKept d r
behind d fetched (Taken e) stays kept = record { template = kept.template; nodes = kept.nodes; stays = stays_then d.now fetched e.now stays kept.stays }
behind d fetched NoneFits stays kept = tt
behind d fetched Spent stays kept = tt

goes_keeps : (d : Drafted) (k : ℕ) (ws : List Wish) (draws : List ℕ) (s : Solved) (r : Turned Drafted) → GoesOn d k ws draws s r → StartIsKept d r
goes_keeps d k ws draws (answers.Found x) r a =
    behind d a.fetched r (by_same d.now _ a.fetched a.placed.is (given_stays k a.placed.places d.now)) (ended_keeps (at_test d a.fetched) k ws a.answered.answer.dropped a.answered.answer.solved r a.answered.ends)
goes_keeps d k ws draws answers.NoneFits r a = subst (StartIsKept d) (sym a) tt
goes_keeps d k ws draws answers.Spent r a = subst (StartIsKept d) (sym a) tt

pub turned_keeps : (d : Drafted) (k : ℕ) (i : Item) (line : ℕ) (draws : List ℕ) (r : Turned Drafted) → IsLeaf i line → IsTurnedTo d k i draws r → StartIsKept d r
turned_keeps d k i line draws r (leaf _ wishes) is = goes_keeps d k wishes.items draws is.fetch r is.goes_on
turned_keeps d k i line draws r (fault _ causes) is = ended_keeps d k [] [] is.fetch r is.ends

-- ---- to the end

module _ (first : Shown) (turns : ℕ) where
  pub own : IsOfStart first first
  own = record { template = refl; nodes = refl; ram = refl; harts = refl }

  abbrev Kept : Turned Shown → Type 0
  Kept (Taken next) = IsOfStart first next
  Kept NoneFits = Unit {0}
  Kept Spent = Unit {0}

  shown_keeps : (s : Shown) (r : Turned Drafted) → IsOfStart first s → StartIsKept (draft_of s) r → Kept (turn_shown r)
  shown_keeps s (Taken e) is kept = record {
    template = kept.template ∙ is.template;
    nodes = kept.nodes ∙ is.nodes;
    ram = kept.stays.ram ∙ is.ram;
    harts = kept.stays.harts ∙ is.harts;
  }
  shown_keeps s NoneFits is kept = tt
  shown_keeps s Spent is kept = tt

  turn_keeps : (hart line : ℕ) (item : Item) (draws : List ℕ) (s next : Shown) → IsLeaf item line → draft_rules.turn hart item draws s (Taken next) → IsOfStart first s → IsOfStart first next
  turn_keeps hart line item draws s next is_leaf gives is =
      subst Kept (sym gives.2) (shown_keeps s gives.0 is (turned_keeps (draft_of s) hart item line draws gives.0 is_leaf gives.1))

  abbrev EndKept : Outcome Shown → Type 0
  EndKept (Finished last t) = IsOfStart first last
  EndKept (Dead t) = Unit {0}
  EndKept (GaveUp t) = Unit {0}

  mutual
    pub walks_keep : {todo : List (ℕ × Item)} {s : Shown} {t : Tally} {o : Outcome Shown} → Walks draft_rules turns todo s t o → IsOfStart first s → EndKept o
    walks_keep finished is = is
    walks_keep (gives_up is_leaf over) is = tt
    walks_keep (taken is_leaf lt gives walks) is = walks_keep walks (turn_keeps _ _ _ _ _ _ is_leaf gives is)
    walks_keep (unfit is_leaf lt gives) is = tt
    walks_keep (too_large is_leaf lt gives) is = tt
    walks_keep (label name walks) is = walks_keep walks (record { template = is.template; nodes = is.nodes; ram = is.ram; harts = is.harts })
    walks_keep (seq body walks) is = walks_keep walks is
    walks_keep (rep times body walks) is = walks_keep walks is
    walks_keep (choose line ways tries) is = tries_keep tries is

    tries_keep : {hart : ℕ} {ways : List (ℕ × Vec Item Global)} {todo : List (ℕ × Item)} {s : Shown} {t : Tally} {o : Outcome Shown} → Tries draft_rules turns hart ways todo s t o → IsOfStart first s → EndKept o
    tries_keep none_left is = tt
    tries_keep (leads walks) is = walks_keep walks (record { template = is.template; nodes = is.nodes; ram = is.ram; harts = is.harts })
    tries_keep (stops walks) is = tt
    tries_keep (goes_on walks tries) is = tries_keep tries is

  abbrev ResultKept : SearchResult Shown → Type 0
  ResultKept (Done last t) = IsOfStart first last
  ResultKept (NoTest t) = Unit {0}

  pub comes_keep : {todo : List (ℕ × Item)} {o : Outcome Shown} {r : SearchResult Shown} → ComesTo (Walks draft_rules turns todo first) o r → EndKept o → ResultKept r
  comes_keep done kept = kept
  comes_keep gave_up kept = tt
  comes_keep (again walks comes) kept = comes_keep comes (walks_keep walks own)
