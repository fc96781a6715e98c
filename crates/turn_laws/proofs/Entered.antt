-- The translation of a fetch while the page table entries that it starts are given.
use Rattle.std.proofs.Common.{◌≡◌, ℕ, ◌+◌, ◌%◌, ◌<◌, ◌≤◌, List, length, ◌⊎◌, refl, sym, ap, ◌∙◌, subst, inl, inr, arith}
use Rattle.rv_isa.specs.declared.instruction.Instr.{Instr}
use Rattle.rv_script.specs.declared.access.Access.{Access}
use Rattle.rv_script.specs.declared.place.Place.{Place}
use Rattle.rv_script.specs.Labels.{Asks}
use Rattle.rv_script.specs.Script.{Question, Script, Script.Ask, Script.Outside, Script.Done, ◌>>=◌, access_of}
use Rattle.rv_script.specs.Folds.{Answer, Answer.Does, Answer.Missing as Lacks, Answer.Nowhere, Entry, Known, and_then, by_known, play}
use Rattle.rv_script.specs.Logs.{answer_told, enlarged}
use Rattle.rv_script.proofs.Binds.{bound}
use Rattle.rv_script.proofs.Plays.{play_same}
use Rattle.sv_walk.specs.declared.entry.Kind.TheVariants.{Fetch as ForFetch}
use Rattle.sv_walk.specs.Translation.{Reached}
use Rattle.sv_walk.proofs.Orders.{translated_between}
use Rattle.rv_hart.specs.Asked.{IsAskable}
use Rattle.rv_hart.specs.Fixed.{Fixed}
use Rattle.rv_hart.specs.Machine.{arriving, at_address, fetch_view, fetched_at, script}
use Rattle.rv_hart.proofs.Askable.{asks_places}
use Rattle.foot_map.specs.declared.touch.Touch.{Touch}
use Rattle.part_machine.specs.Whole.{Whole, fixed_in, hart_of, next_of}
use Rattle.part_state.specs.Meaning.{IsTest}
use Rattle.leaf_link.specs.Candidates.{accesses_in}
use Rattle.turn_laws.specs.Given.{CanGive, Setting, all_given, known_at, turn_at}
use Rattle.turn_laws.specs.Ahead.{AreAmong, AreVectors, unknown_in}
use Rattle.turn_laws.specs.Entered.{FetchCandidatesAreWalked, IsEntering, IsWalked, WalksAreShort, walk_script, walked_at}
use Rattle.turn_laws.proofs.Ahead.{all_listed, fewer, fork, more_among, next_place}
use Rattle.turn_laws.proofs.CsrQuestions.{AsksCsr, asks_csrs}
use Rattle.turn_laws.proofs.Lacking.{AreTold, IsLackedIn, IsStopped, few_asked}
use Rattle.turn_laws.proofs.Places.{fixed_parts}
use Rattle.turn_laws.proofs.Steps.{with_accesses}

-- ---- answers

abbrev Walked : Type 0
Walked = Answer Access Reached

same_lacked : (p q : Place) → (let a : Walked = Lacks p in a) ≡ Lacks q → p ≡ q
same_lacked p q e = cc e

done_lacks : (xs : List Access) (r : Reached) (p : Place) → (let a : Walked = Does xs r in a) ≡ Lacks p → ⊥
done_lacks xs r p e = absurd (cc e)

lacks_nowhere : (p : Place) → (let a : Walked = Lacks p in a) ≡ Nowhere → ⊥
lacks_nowhere p e = absurd (cc e)

done_nowhere : (xs : List Access) (r : Reached) → (let a : Walked = Does xs r in a) ≡ Nowhere → ⊥
done_nowhere xs r e = absurd (cc e)

same_end : (xs ys : List Access) (r t : Reached) → (let a : Walked = Does xs r in a) ≡ Does ys t → r ≡ t
same_end xs ys r t e = cc e

-- ---- the step lacks what its translation lacks

pub lacks_too : (f : Fixed) (known : Known) (place : Place) → play access_of (by_known known) (walk_script f) ≡ Lacks place → play access_of (by_known known) (script f) ≡ Lacks place
unfolding script at_address
lacks_too f known place h =
    bound access_of (walk_script f) (arriving f 0 f.pc (fetched_at f)) (by_known known)
    ∙ ap (λ (r : Walked). and_then r (λ z. play access_of (by_known known) (arriving f 0 f.pc (fetched_at f) z))) h

-- ---- what a step asks for, its translation does
asks_first : {A B : Type 0} (P : Question → Type 0) (s : Script A) (next : A → Script B) → Asks P (s >>= next) → Asks P s
asks_first P (Ask q more) next h = (h.0, λ v. asks_first P (more v) next (h.1 v))
asks_first P Outside next h = tt
asks_first P (Done a) next h = tt

pub walk_asks : (P : Question → Type 0) (f : Fixed) → Asks P (script f) → Asks P (walk_script f)
unfolding script at_address
walk_asks P f h = asks_first P (walk_script f) (arriving f 0 f.pc (fetched_at f)) h

-- ---- on the way

module _
    (s : Setting) (feet : List Touch) (k : ℕ) (w : Whole) (new : Known) (es : List (Place × ℕ)) (log : List Entry) (end : Reached) (test : IsTest w) (l : k < length w.harts) (aligned : (fixed_in (hart_of k w) w.memory).pc % 4 ≡ 0) (vectors : AreVectors s.vectors)
    (can : CanGive k es w) (among : AreAmong es new) (p : IsWalked (turn_at s feet k w) new log end) where
  abbrev to : Whole
  to = all_given k es w

  abbrev own : Fixed
  own = fixed_in (hart_of k w) w.memory

  abbrev tell : Known
  tell = known_at k to

  asks : Asks (IsAskable own.ram) (walk_script own)
  asks = walk_asks (IsAskable own.ram) own (asks_places own aligned)

  csrs : Asks AsksCsr (walk_script own)
  csrs = walk_asks AsksCsr own (asks_csrs own)

  same_fixed : fixed_in (hart_of k to) to.memory ≡ own
  same_fixed = fixed_parts k es w test l can

  walk_is : walked_at k to ≡ play access_of (by_known tell) (walk_script own)
  walk_is = ap (λ (f : Fixed). play access_of (by_known tell) (walk_script f)) same_fixed

  way : IsStopped (by_known tell) (walk_script own) log ⊎ AreTold (by_known tell) log
  way = fork s feet k w new es log test l vectors can among Reached (walk_script own) end p.plays p.exact p.may asks csrs

  told_done : AreTold (by_known tell) log → answer_told (by_known tell) (walk_script own) ≡ Does log end
  told_done told = play_same (walk_script own) (by_known (enlarged (known_at k w) new)) (by_known tell) log end p.plays told

  done : AreTold (by_known tell) log → walked_at k to ≡ Does (accesses_in log) end
  done told = walk_is ∙ with_accesses (walk_script own) (by_known tell) log end (told_done told)

  lacked : (place : Place) → walked_at k to ≡ Lacks place → IsLackedIn (by_known tell) log place
  lacked place h = elim way [
    | inl stopped ↦ subst (λ (q : Place). IsLackedIn (by_known tell) log q) (same_lacked stopped.place place (sym (walk_is ∙ stopped.stops) ∙ h)) stopped.lacked
    | inr told ↦ absurd (done_lacks (accesses_in log) end place (sym (done told) ∙ h))
  ]

  next_lacks : (place : Place) → walked_at k to ≡ Lacks place → next_of k to ≡ Lacks place
  next_lacks place h = lacks_too (fixed_in (hart_of k to) to.memory) tell place h

  all_told : (xs : List Access) (other : Reached) → walked_at k to ≡ Does xs other → AreTold (by_known tell) log
  all_told xs other h = elim way [
    | inl stopped ↦ absurd (done_lacks xs other stopped.place (sym h ∙ walk_is ∙ stopped.stops))
    | inr told ↦ told
  ]

  pub entering : IsEntering k w new es log end
  entering = record {
    lacks = λ place h. (next_lacks place h, next_place s feet k w new es log test l vectors can among Reached (walk_script own) end p.plays p.exact p.may asks csrs place (lacked place h));
    fewer = λ place v h is. fewer s feet k w new es log test l vectors can among Reached (walk_script own) end p.plays p.exact p.may asks csrs place v (lacked place h);
    among = λ place v h is. more_among s feet k w new es log test l vectors can among Reached (walk_script own) end p.plays p.exact p.may asks csrs place v (lacked place h) is;
    somewhere = λ h. elim way [
      | inl stopped ↦ lacks_nowhere stopped.place (sym (walk_is ∙ stopped.stops) ∙ h)
      | inr told ↦ done_nowhere (accesses_in log) end (sym (done told) ∙ h)
    ];
    done = λ xs other h. (
      all_listed s feet k w new es log test l vectors can among Reached (walk_script own) end p.plays p.exact p.may asks csrs (all_told xs other h),
      same_end xs (accesses_in log) other end (sym h ∙ done (all_told xs other h)),
      ap (λ (f : Fixed). answer_told (by_known tell) (walk_script f)) same_fixed ∙ told_done (all_told xs other h),
    );
  }

pub walks_short : WalksAreShort
walks_short t new known log end p =
    let few : 0 + unknown_in known log ≤ 2 =
    few_asked 0 2 (walk_script t.fixed) (by_known (enlarged t.known new)) log end known (omega arith) (translated_between 0 t.fixed.ram (fetch_view t.fixed) ForFetch t.fixed.pc refl refl) p.plays in
    omega (arith, few)

-- ---- candidates

some_instr : Instr
some_instr = record { op = Rattle.rv_isa.specs.declared.operation.Op.TheVariants.Illegal; rd = 0; rs1 = 0; rs2 = 0; imm = 0; csr = 0 }

pub fetch_walked : FetchCandidatesAreWalked
fetch_walked t new c = record {
  plays = c.plays;
  exact = c.exact;
  may = λ e i none. (some_instr, c.meets.may some_instr e i none);
}
