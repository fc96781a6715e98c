-- A script that is done on what is known, played on less: it is done as well, or it lacks a place that it then asks for.
use Rattle.std.proofs.Common.{◌≡◌, ℕ, suc, ◌+◌, ◌<◌, ◌≤◌, Bool, true, false, if◌then◌else◌, List, [], ◌∷◌, ◌⊎◌, Option, Some, None, refl, sym, ap, ◌∙◌, subst, inl, inr, arith}
use Rattle.std.proofs.lemmas.Option.{same_Some}
use Rattle.rv_script.specs.declared.access.Access.{Access}
use Rattle.rv_script.specs.declared.place.Place.{Place}
use Rattle.rv_script.specs.Lists.{HasItem}
use Rattle.rv_script.specs.Script.{Question, access_of, place_of, told as told_of, Script, Script.Ask, Script.Outside, Script.Done}
use Rattle.rv_script.specs.Folds.{Known, Teller, Answer, Answer.Does, Answer.Missing, Entry, noted, on_told, play}
use Rattle.rv_script.specs.Labels.{Asks, Between, question_number}
use Rattle.rv_script.specs.Laws.{TellsMore}
use Rattle.rv_script.specs.Logs.{answer_told, entry_place, found, same_place}
use Rattle.rv_script.proofs.Plays.{entry, first_asked, same_is}
use Rattle.turn_laws.specs.Ahead.{count_unknown, unknown_in}

-- ---- where it stops

-- the log asks for the place, of which nothing is told
pub record IsLackedIn (t : Teller) (log : List Entry) (place : Place) : Type 0 where
  pub asked : Entry
  pub among : HasItem log asked
  pub at : entry_place asked ≡ place
  pub untold : t asked.question ≡ None

pub record IsStopped {A : Type 0} (t : Teller) (s : Script A) (log : List Entry) : Type 0 where
  pub place : Place
  pub stops : play access_of t s ≡ Missing place
  pub lacked : IsLackedIn t log place

abbrev pub AreTold : Teller → List Entry → Type 0
AreTold t log = (e : Entry) → HasItem log e → t e.question ≡ Some e.value

noted_missing : {A : Type 0} (o : Option Access) (place : Place) → (let r : Answer Access A = noted o (Missing place) in r) ≡ Missing place
noted_missing None place = refl
noted_missing (Some x) place = refl

-- behind one question that was answered
behind : {A : Type 0} (q : Question) (next : ℕ → Script A) (less : Teller) (v : ℕ) (rest : List Entry) (o : Option ℕ) → less q ≡ o → ((u : ℕ) → o ≡ Some u → u ≡ v)
    → IsStopped less (next (told_of q v)) rest ⊎ AreTold less rest → IsStopped less (Ask q next) (entry q v ∷ rest) ⊎ AreTold less (entry q v ∷ rest)
behind {A} q next less v rest None is same later = inl (record {
  place = place_of q;
  stops = ap (λ (p : Option ℕ). on_told p (place_of q) (λ u. noted (access_of q u) (play access_of less (next (told_of q u))))) is;
  lacked = record { asked = entry q v; among = inl refl; at = refl; untold = is };
})
behind {A} q next less v rest (Some u) is same (inl stopped) =
    let here : less q ≡ Some v = is ∙ ap (λ (n : ℕ). Some n) (same u refl) in
    inl (record {
      place = stopped.place;
      stops = ap (λ (p : Option ℕ). on_told p (place_of q) (λ n. noted (access_of q n) (play access_of less (next (told_of q n))))) here
          ∙ ap (λ (r : Answer Access A). noted (access_of q v) r) stopped.stops
          ∙ noted_missing (access_of q v) stopped.place;
      lacked = record { asked = stopped.lacked.asked; among = inr stopped.lacked.among; at = stopped.lacked.at; untold = stopped.lacked.untold };
    })
behind {A} q next less v rest (Some u) is same (inr told) =
    let here : less q ≡ Some v = is ∙ ap (λ (n : ℕ). Some n) (same u refl) in
    inr (λ e i. elim i [
      | inl first ↦ subst (λ (z : Entry). less z.question ≡ Some z.value) first here
      | inr there ↦ told e there
    ])

pub stopped_or_told : {A : Type 0} (s : Script A) (more less : Teller) (log : List Entry) (a : A) → TellsMore less more → answer_told more s ≡ Does log a → IsStopped less s log ⊎ AreTold less log
stopped_or_told (Ask q next) more less log a tells h =
    let d = first_asked q next more log a h in
    subst (λ (z : List Entry). IsStopped less (Ask q next) z ⊎ AreTold less z) (sym d.4)
    (behind q next less d.0 d.1 (less q) refl (λ u e. same_Some u d.0 (sym (tells q u e) ∙ d.2)) (stopped_or_told (next (told_of q d.0)) more less d.1 a tells d.3))
stopped_or_told Outside more less log a tells h = absurd (cc)
stopped_or_told (Done b) more less log a tells h = let g : log ≡ [] = cc in inr (λ e i. absurd (subst (λ (z : List Entry). HasItem z e) g i))

-- ---- logs

-- what each question of a script has, each entry of its log has
pub asked_in : {A : Type 0} (P : Question → Type 0) (s : Script A) (t : Teller) (log : List Entry) (a : A) → Asks P s → answer_told t s ≡ Does log a → (e : Entry) → HasItem log e → P e.question
asked_in P (Ask q next) t log a asks h e i =
    let d = first_asked q next t log a h in
    elim (subst (λ (z : List Entry). HasItem z e) d.4 i) [
      | inl here ↦ subst (λ (z : Entry). P z.question) here asks.0
      | inr there ↦ asked_in P (next (told_of q d.0)) t d.1 a (asks.1 (told_of q d.0)) d.3 e there
    ]
asked_in P Outside t log a asks h e i = absurd (cc)
asked_in P (Done b) t log a asks h e i = let g : log ≡ [] = cc in absurd (subst (λ (z : List Entry). HasItem z e) g i)

one_at_most : (o : Option ℕ) → count_unknown o ≤ 1
one_at_most None = omega arith
one_at_most (Some v) = omega arith

-- a script that asks in order has no more entries than there are numbers
pub few_asked : {A : Type 0} (n m : ℕ) (s : Script A) (t : Teller) (log : List Entry) (a : A) (known : Known) → n ≤ m → Between n m s → answer_told t s ≡ Does log a → n + unknown_in known log ≤ m
few_asked n m (Ask q next) t log a known below up h =
    let d = first_asked q next t log a h in
    let rest : suc (question_number q) + unknown_in known d.1 ≤ m = few_asked (suc (question_number q)) m (next (told_of q d.0)) t d.1 a known (omega (arith, up.1)) (up.3 (told_of q d.0)) d.3 in
    let one : count_unknown (known (place_of q)) ≤ 1 = one_at_most (known (place_of q)) in
    subst (λ (z : List Entry). n + unknown_in known z ≤ m) (sym d.4) (omega (arith, rest, one, up.0))
few_asked n m Outside t log a known below up h = absurd (cc)
few_asked n m (Done b) t log a known below up h = let g : log ≡ [] = cc in subst (λ (z : List Entry). n + unknown_in known z ≤ m) (sym g) (omega (arith, below))

-- where more is known, no more is unknown
pub no_more_unknown : (old new : Known) (log : List Entry) → ((place : Place) → count_unknown (new place) ≤ count_unknown (old place)) → unknown_in new log ≤ unknown_in old log
no_more_unknown old new [] less = omega arith
no_more_unknown old new (e ∷ log) less = omega (arith, less (entry_place e), no_more_unknown old new log less)

-- and less, where a place of the log became known
pub less_unknown : (old new : Known) (log : List Entry) (e : Entry) (v : ℕ) → HasItem log e → ((place : Place) → count_unknown (new place) ≤ count_unknown (old place))
    → old (entry_place e) ≡ None → new (entry_place e) ≡ Some v → unknown_in new log < unknown_in old log
less_unknown old new [] e v i less none some = absurd i
less_unknown old new (f ∷ log) e v (inl here) less none some =
    let before : count_unknown (old (entry_place f)) ≡ 1 = ap (λ (z : Entry). count_unknown (old (entry_place z))) here ∙ ap count_unknown none in
    let after : count_unknown (new (entry_place f)) ≡ 0 = ap (λ (z : Entry). count_unknown (new (entry_place z))) here ∙ ap count_unknown some in
    omega (arith, before, after, no_more_unknown old new log less)
less_unknown old new (f ∷ log) e v (inr there) less none some = omega (arith, less (entry_place f), less_unknown old new log e v there less none some)

-- what a log says of a place is said at an entry of it
pub found_at : (log : List Entry) (place : Place) (v : ℕ) → found log place ≡ Some v → (e : Entry) × HasItem log e × (entry_place e ≡ place)
found_at [] place v h = absurd (cc)
found_at (f ∷ log) place v h = go (same_place (entry_place f) place) refl h (found_at log place v)
  where
    go : (b : Bool) → same_place (entry_place f) place ≡ b → (if b then Some f.value else found log place) ≡ Some v → (found log place ≡ Some v → (e : Entry) × HasItem log e × (entry_place e ≡ place))
        → (e : Entry) × HasItem (f ∷ log) e × (entry_place e ≡ place)
    go true same h rest = (f, inl refl, same_is (entry_place f) place same)
    go false other h rest = let r = rest h in (r.0, inr r.1, r.2)
