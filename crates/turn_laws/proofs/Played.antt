-- The steps of candidates and steps whose fetch fails are played on what their turns know and on what they start.
use Rattle.std.proofs.Common.{◌≡◌, ℕ, suc, ◌<◌, ◌≤◌, ◌⊎◌, Bool, true, false, eqb, if◌then◌else◌, List, Some, None, refl, sym, ap, ◌∙◌, subst, inl, inr, arith}
use Rattle.std.proofs.lemmas.Bool.{ne_eqb}
use Rattle.rv_isa.specs.declared.operation.Op.TheVariants.{Illegal}
use Rattle.rv_isa.specs.Reading.{decoded}
use Rattle.rv_script.specs.declared.access.Access.{Access}
use Rattle.rv_script.specs.declared.access.Role.{Role}
use Rattle.rv_script.specs.declared.access.Role.TheVariants.{Fetch, Walk, Load, Store}
use Rattle.rv_script.specs.Bytes.{is_look}
use Rattle.rv_script.specs.Lists.{HasItem}
use Rattle.rv_script.specs.Script.{Label, Label.FetchRoot, Label.FetchSecond, Label.Fetched, Label.FromRs1, Label.FromRs2, Label.FromCsr, Label.DataRoot, Label.DataSecond, Label.DataWord, Label.FromVector, Question, Question.OfRegister, Question.OfCsr, Question.OfMemory, Question.ToMemory, access_of, role_of, told as told_of, Script, Script.Ask, Script.Outside, Script.Done, ◌>>=◌}
use Rattle.rv_script.specs.Folds.{Teller, Answer.Does, Entry, by_known}
use Rattle.rv_script.specs.Labels.{Between, question_number}
use Rattle.rv_script.specs.Logs.{answer_told, enlarged, labelled}
use Rattle.rv_script.proofs.Plays.{entry, first_asked, numbers_within}
use Rattle.sv_walk.specs.declared.entry.Kind.TheVariants.{Fetch as ForFetch}
use Rattle.sv_walk.specs.Translation.{Reached, At, Fails, translated}
use Rattle.sv_walk.proofs.Orders.{translated_between}
use Rattle.foot_map.specs.Races.{breaks}
use Rattle.rv_hart.specs.Fixed.{Fixed}
use Rattle.rv_hart.specs.Machine.{arriving, at_address, fetch_view, fetched_at, instruction, script}
use Rattle.rv_hart.specs.Privileged.{trap}
use Rattle.rv_hart.proofs.Forms.{trap_between}
use Rattle.leaf_link.specs.Candidates.{accesses_in}
use Rattle.turn_laws.specs.Played.{CandidatesArePlayed, FaultsArePlayed}
use Rattle.turn_laws.proofs.Steps.{entry_at}

pub candidate_played : CandidatesArePlayed
candidate_played t leaf new c = record {
  plays = c.is.plays;
  exact = c.is.exact;
  may = λ e i none. (c.instr, c.is.meets.may e i none);
  free = c.is.meets.free;
  apart = c.is.meets.apart;
}

-- ---- where no word is fetched, nothing is stored

abbrev IsEarlyOrLast : Question → Type 0
IsEarlyOrLast q = (question_number q < 2) ⊎ (9 ≤ question_number q)

-- a script is done, and none of its questions is for the instruction word
abbrev EndsUnfetched : {A : Type 0} → Script A → Type 0
EndsUnfetched {A} s = (t : Teller) (log : List Entry) (a : A) → answer_told t s ≡ Does log a → labelled log Fetched ≡ None → (e : Entry) → HasItem log e → IsEarlyOrLast e.question

early_then : {A B : Type 0} (n : ℕ) (s : Script A) (f : A → Script B) → Between n 2 s → ((a : A) → EndsUnfetched (f a)) → EndsUnfetched (s >>= f)
early_then n (Ask q next) f early rest t log b plays none e i =
    let d = first_asked q (λ v. next v >>= f) t log b plays in
    let other : eqb (question_number q) 2 ≡ false = ne_eqb (question_number q) 2 (λ same. let less = early.1 in absurd (omega (arith, same, less))) in
    let later : labelled d.1 Fetched ≡ None =
    sym (ap (λ (c : Bool). if c then Some (entry q d.0) else labelled d.1 Fetched) other) ∙ ap (λ (l : List Entry). labelled l Fetched) (sym d.4) ∙ none in
    elim (subst (λ (l : List Entry). HasItem l e) d.4 i) [
      | inl here ↦ subst (λ (g : Entry). IsEarlyOrLast g.question) here (inl early.1)
      | inr there ↦ early_then (suc (question_number q)) (next (told_of q d.0)) f (early.3 (told_of q d.0)) rest t d.1 b d.3 later e there
    ]
early_then n Outside f early rest t log b plays none e i = absurd (cc)
early_then n (Done a) f early rest t log b plays none e i = rest a t log b plays none e i

arrives : (f : Fixed) (r : Reached) → EndsUnfetched (arriving f 0 f.pc (fetched_at f) r)
unfolding fetched_at
arrives f (At pa) t log change plays none e i =
    let d = first_asked (OfMemory Fetched pa 4) (λ w. instruction f w (decoded w)) t log change plays in
    let z = ap (λ (l : List Entry). labelled l Fetched) (sym d.4) ∙ none in
    absurd (cc z)
arrives f (Fails cause) t log change plays none e i = inr (numbers_within 9 10 (trap f 0 cause f.pc) t log change (trap_between 9 f 0 cause f.pc (omega arith)) plays e i).0

unfetched : (f : Fixed) → EndsUnfetched (script f)
unfolding script at_address
unfetched f = early_then 0 (translated f.ram (fetch_view f) ForFetch f.pc) (arriving f 0 f.pc (fetched_at f)) (translated_between 0 f.ram (fetch_view f) ForFetch f.pc refl refl) (arrives f)

looks : (label : Label) → is_look (role_of label) ≡ true
looks FetchRoot = refl
looks FetchSecond = refl
looks Fetched = refl
looks FromRs1 = refl
looks FromRs2 = refl
looks FromCsr = refl
looks DataRoot = refl
looks DataSecond = refl
looks DataWord = refl
looks FromVector = refl

looks_at : (q : Question) (v : ℕ) (x : Access) → IsEarlyOrLast q → access_of q v ≡ Some x → is_look x.role ≡ true
looks_at (OfRegister label n) v x asked h = absurd (cc)
looks_at (OfCsr label addr) v x asked h = absurd (cc)
looks_at (OfMemory label addr size) v x asked h = let same : role_of label ≡ x.role = cc in subst (λ (r : Role). is_look r ≡ true) same (looks label)
looks_at (ToMemory addr size value) v x (inl early) h = absurd (omega (arith, early))
looks_at (ToMemory addr size value) v x (inr last) h = absurd (omega (arith, last))

-- what only looks races with nothing of the kind
look_apart : (r s : Role) → is_look r ≡ true → is_look s ≡ true → breaks true r s ≡ false
look_apart Store s h k = absurd (cc)
look_apart Fetch Store h k = absurd (cc)
look_apart Fetch _ h k = refl
look_apart Walk Store h k = absurd (cc)
look_apart Walk _ h k = refl
look_apart Load Store h k = absurd (cc)
look_apart Load _ h k = refl

pub fault_played : FaultsArePlayed
fault_played t causes new c = record {
  plays = c.plays;
  exact = c.exact;
  may = λ e i none. (record { op = Illegal; rd = 0; rs1 = 0; rs2 = 0; imm = 0; csr = 0 }, c.meets.may (record { op = Illegal; rd = 0; rs1 = 0; rs2 = 0; imm = 0; csr = 0 }) e i none);
  free = c.meets.free;
  apart = λ x y i j meet. look_apart x.role y.role (look x i) (look y j);
}
  where
    look : (x : Access) → HasItem (accesses_in c.log) x → is_look x.role ≡ true
    look x i =
        let e = entry_at c.log x i in
        looks_at e.entry.question e.entry.value x (unfetched t.fixed (by_known (enlarged t.known new)) c.log c.change c.plays c.meets.fails e.entry e.among) e.is
