-- The values of the new places of a fetch, of a `do` and of a `fault` leaf.
use Rattle.std.proofs.Common.{◌≡◌, ℕ, if◌then◌else◌, Bool, true, false, eqb, List, [], ◌∷◌, ◌++◌, ◌⊎◌, Some, None, refl, sym, ap, ◌∙◌, subst, inl, inr}
use Rattle.std.proofs.lemmas.Bool.{cases_Bool, eq-eqb, eqb-true}
use Rattle.rv_csr.specs.declared.cause.Cause.{Cause}
use Rattle.rv_csr.specs.Causes.{number_of}
use Rattle.rv_script.specs.declared.place.Place.{Place}
use Rattle.rv_script.specs.declared.place.Place.TheVariants.{Word}
use Rattle.rv_script.specs.Bytes.{word_address}
use Rattle.rv_script.specs.Folds.{Answer.Does, Entry, Known, Teller, by_known}
use Rattle.rv_script.specs.Labels.{Asks, label_of}
use Rattle.rv_script.specs.Lists.{HasItem}
use Rattle.rv_script.specs.Logs.{answer_told, enlarged, entry_label, entry_place, is_word, labelled}
use Rattle.rv_script.specs.Script.{Label, Label.FetchRoot, Label.FetchSecond, Label.Fetched, Label.FromVector, Question, Question.OfRegister, Question.OfCsr, Question.OfMemory, Question.ToMemory, Script, Script.Ask, Script.Done, place_of}
use Rattle.rv_script.proofs.Plays.{first_asked, labelled_one, numbers_within}
use Rattle.rv_script.proofs.Results.{Ends, ended}
use Rattle.rv_script.proofs.Items.{has_either, has_first}
use Rattle.rv_hart.specs.declared.record.Change.{Change}
use Rattle.rv_hart.specs.Changes.{outcome_of}
use Rattle.rv_hart.specs.Fixed.{Fixed}
use Rattle.rv_hart.specs.Machine.{arriving, at_address, fetch_view, fetched_at, script}
use Rattle.rv_hart.specs.Privileged.{trap}
use Rattle.rv_hart.proofs.Forms.{script_between}
use Rattle.sv_walk.specs.declared.entry.Kind.TheVariants.{Fetch as ForFetch}
use Rattle.sv_walk.specs.Entry.{access_cause}
use Rattle.sv_walk.specs.Translation.{Reached, At, Fails, arrived, from_pointer, from_root, is_in_ram, is_translated, root_address, translated}
use Rattle.tpl_admit.specs.Admitting.{is_fetch_cause, is_unfetched}
use Rattle.fd_prob.specs.declared.slot.Slot.TheVariants as slots
use Rattle.leaf_link.specs.Turns.{Turn}
use Rattle.leaf_link.specs.Values.{Values, given_by}
use Rattle.leaf_link.specs.Fetches.{IsFetchCandidate, fetch_script}
use Rattle.leaf_link.specs.Faults.{IsFaultCandidate}
use Rattle.leaf_link.specs.FetchAnswers.{fault_key, fetch_key}
use Rattle.leaf_link.specs.Placing.{AreTwoWords, KeepsSatp}
use Rattle.leaf_link.specs.FetchPlacing.{FaultPlacesHaveValues, FaultWordsAreTwo, FaultsAreUnfetched, FaultsKeepSatp, FetchPlacesHaveValues, FetchWordsAreTwo, entry_value, root_word}
use Rattle.leaf_link.proofs.Failing.{fault_numbers, given_fault, reads}
use Rattle.leaf_link.proofs.Fetching.{fetch_between, given_fetch}
use Rattle.leaf_link.proofs.Front.{label_past}
use Rattle.leaf_link.proofs.Placing.{address_in, address_of, asked_by, found_in, new_found, same_word, word_aligned}
use Rattle.leaf_link.proofs.Reaching.{then_done}
use Rattle.leaf_link.proofs.Unfailing.{translated_ends}

-- WHAT IS ASKED
-- the root entry, the second one, or a vector
abbrev IsOfFetch : ℕ → Question → Type 0
IsOfFetch root (OfMemory FetchRoot addr size) = word_address addr ≡ root
IsOfFetch root (OfMemory FetchSecond addr size) = Unit {0}
IsOfFetch root (OfCsr FromVector addr) = Unit {0}
IsOfFetch root q = ⊥

if_asks : (root : ℕ) (b : Bool) (s t : Script Reached) → Asks (IsOfFetch root) s → Asks (IsOfFetch root) t → Asks (IsOfFetch root) (if b then s else t)
if_asks root true s t h k = h
if_asks root false s t h k = k

pointer_asks : (t : Turn) (entry : ℕ) → Asks (IsOfFetch (root_word t)) (from_pointer t.fixed.ram (fetch_view t.fixed) ForFetch t.fixed.pc entry)
unfolding from_pointer
pointer_asks t entry = search (if_asks, tt)

root_asks : (t : Turn) (entry : ℕ) → Asks (IsOfFetch (root_word t)) (from_root t.fixed.ram (fetch_view t.fixed) ForFetch t.fixed.pc entry)
unfolding from_root
root_asks t entry = search (if_asks, pointer_asks, tt)

fetch_asks : (t : Turn) → Asks (IsOfFetch (root_word t)) (fetch_script t)
unfolding translated
fetch_asks t = search (if_asks, root_asks, tt)

trap_asks : (root : ℕ) (f : Fixed) (word : ℕ) (cause : Cause) (value : ℕ) → Asks (IsOfFetch root) (trap f word cause value)
unfolding trap
trap_asks root f word cause value = (tt, λ v. tt)

-- where anything is asked, the root entry is
record HasRoot (t : Turn) (log : List Entry) : Type 0 where
  root : Entry
  among : HasItem log root
  at : entry_place root ≡ Word (root_word t)
  label : entry_label root ≡ FetchRoot

nothing_asked : {A : Type 0} (a b : A) (log : List Entry) (e : Entry) → Does [] a ≡ Does log b → HasItem log e → ⊥
nothing_asked a b [] e h i = i
nothing_asked a b (d ∷ log) e h i = absurd (cc h)

root_asked : (t : Turn) (tell : Teller) (log : List Entry) (end : Reached) → answer_told tell (fetch_script t) ≡ Does log end → (e : Entry) → HasItem log e → HasRoot t log
unfolding translated
root_asked t tell log end h e i = go (is_translated (fetch_view t.fixed)) (is_in_ram t.fixed.ram (root_address (fetch_view t.fixed) t.fixed.pc)) h
  where
    go : (b c : Bool)
        → answer_told tell (if b then (if c then Ask (OfMemory FetchRoot (root_address (fetch_view t.fixed) t.fixed.pc) 4) (λ v. from_root t.fixed.ram (fetch_view t.fixed) ForFetch t.fixed.pc v) else Done (Fails (access_cause ForFetch))) else Done (arrived t.fixed.ram ForFetch t.fixed.pc)) ≡ Does log end
        → HasRoot t log
    go true true h =
        let d = first_asked (OfMemory FetchRoot (root_address (fetch_view t.fixed) t.fixed.pc) 4) (λ v. from_root t.fixed.ram (fetch_view t.fixed) ForFetch t.fixed.pc v) tell log end h in
        record {
          root = record { question = OfMemory FetchRoot (root_address (fetch_view t.fixed) t.fixed.pc) 4; value = d.0 };
          among = subst (λ (l : List Entry). HasItem l (record { question = OfMemory FetchRoot (root_address (fetch_view t.fixed) t.fixed.pc) 4; value = d.0 })) (sym d.4) (inl refl);
          at = refl;
          label = refl;
        }
    go true false h = absurd (nothing_asked _ end log e h i)
    go false c h = absurd (nothing_asked _ end log e h i)

-- THE VALUE OF A PLACE
-- the second entry is not the word of the root entry
value_here : (x : Values) (root : ℕ) (q : Question) (v : ℕ) → IsOfFetch root q → given_by x (label_of q) ≡ v → (label_of q ≡ FetchSecond → place_of q ≡ Word root → ⊥) → v ≡ entry_value x root (place_of q)
value_here x root (OfMemory FetchRoot addr size) v h is apart = sym is ∙ sym (ap (λ (b : Bool). if b then x slots.FirstPte else x slots.SecondPte) (eq-eqb (word_address addr) root h))
value_here x root (OfMemory FetchSecond addr size) v h is apart = elim (cases_Bool (eqb (word_address addr) root)) [
  | inl y ↦ absurd (apart refl (ap (λ (n : ℕ). Word n) (eqb-true (word_address addr) root y)))
  | inr n ↦ sym is ∙ sym (ap (λ (b : Bool). if b then x slots.FirstPte else x slots.SecondPte) n)
]
value_here x root (OfCsr FromVector addr) v h is apart = sym is
value_here x root (OfRegister l n) v h is apart = absurd h
value_here x root (ToMemory addr size value) v h is apart = absurd h
value_here x root (OfMemory _ addr size) v h is apart = absurd h
value_here x root (OfCsr _ addr) v h is apart = absurd h

-- a word that is asked for is that of the root entry, or that of the second one
word_here : (root : ℕ) (q : Question) (second addr : ℕ) → IsOfFetch root q → (label_of q ≡ FetchSecond → second ≡ address_in q) → place_of q ≡ Word addr → (addr ≡ root) ⊎ (addr ≡ word_address second)
word_here root (OfMemory FetchRoot a size) second addr h is at = inl (same_word (sym at) ∙ h)
word_here root (OfMemory FetchSecond a size) second addr h is at = inr (same_word (sym at) ∙ ap word_address (sym (is refl)))
word_here root (OfCsr FromVector a) second addr h is at = absurd (cc at)
word_here root (OfRegister l n) second addr h is at = absurd h
word_here root (ToMemory a size value) second addr h is at = absurd h
word_here root (OfMemory _ a size) second addr h is at = absurd h
word_here root (OfCsr _ a) second addr h is at = absurd h

apart_labels : FetchSecond ≡ FetchRoot → ⊥
apart_labels h = absurd (cc h)

-- WHAT A LOG OF SUCH A STEP HAS
record IsFetchLog (t : Turn) (log : List Entry) : Type 0 where
  asked : (e : Entry) → HasItem log e → IsOfFetch (root_word t) e.question
  root : (e : Entry) → HasItem log e → entry_label e ≡ FetchSecond → HasRoot t log
  labels : (e : Entry) → HasItem log e → labelled log (entry_label e) ≡ Some e

-- no new word serves two roles
abbrev IsOnce : Turn → List Entry → Type 0
IsOnce t log = (e f : Entry) → HasItem log e → HasItem log f → t.known (entry_place e) ≡ None → entry_place e ≡ entry_place f → is_word (entry_place e) ≡ true → entry_label e ≡ entry_label f

entry_here : (t : Turn) (x : Values) (log : List Entry) → IsFetchLog t log → IsOnce t log → (e : Entry) → HasItem log e → t.known (entry_place e) ≡ None → given_by x (entry_label e) ≡ e.value → e.value ≡ entry_value x (root_word t) (entry_place e)
entry_here t x log is once e i none given = value_here x (root_word t) e.question e.value (is.asked e i) given (λ second at.
    let r = is.root e i second in
    apart_labels (sym second ∙ once e r.root i r.among none (at ∙ sym r.at) (ap is_word at) ∙ r.label))

two_words : (t : Turn) (new : Known) (log : List Entry) → IsFetchLog t log → ((addr v : ℕ) → new (Word addr) ≡ Some v → (e : Entry) × HasItem log e × (entry_place e ≡ Word addr)) → AreTwoWords new (root_word t)
two_words t new log is there = record {
  other = word_address (address_of (labelled log FetchSecond));
  aligned = word_aligned (address_of (labelled log FetchSecond));
  either = λ addr v h.
      let e = there addr v h in
      word_here (root_word t) e.0.question (address_of (labelled log FetchSecond)) addr (is.asked e.0 e.1)
      (λ second. ap (λ (l : Label). address_of (labelled log l)) (sym second) ∙ ap address_of (is.labels e.0 e.1)) e.2;
}

-- THE FETCH OF A `do` LEAF
fetch_log_is : (t : Turn) (new : Known) → (w : IsFetchCandidate t new) → IsFetchLog t w.log
fetch_log_is t new w =
    let tell : Teller = by_known (enlarged t.known new) in
    record {
      asked = asked_by (IsOfFetch (root_word t)) (fetch_script t) tell w.log (At w.pa) (fetch_asks t) w.plays;
      root = λ e i second. root_asked t tell w.log (At w.pa) w.plays e i;
      labels = labelled_one 0 2 (fetch_script t) tell w.log (At w.pa) (fetch_between t) w.plays;
    }

pub fetch_places_have_values : FetchPlacesHaveValues
fetch_places_have_values t new w place v h =
    let tell : Teller = by_known (enlarged t.known new) in
    let is = fetch_log_is t new w in
    let n = new_found t.known new w.log place v (w.exact place) h in
    let e = found_in w.log place v n.1 in
    let none : t.known (entry_place e.entry) ≡ None = ap t.known e.at ∙ n.0 in
    let early = (numbers_within 0 2 (fetch_script t) tell w.log (At w.pa) (fetch_between t) w.plays e.entry e.among).1 in
    let given = given_fetch t w.log (entry_label e.entry) e.entry (is.labels e.entry e.among) none early in
    sym e.is ∙ entry_here t (fetch_key t new w) w.log is w.meets.once e.entry e.among none given ∙ ap (λ (q : Place). entry_value (fetch_key t new w) (root_word t) q) e.at

pub fetch_words_are_two : FetchWordsAreTwo
fetch_words_are_two t new w = two_words t new w.log (fetch_log_is t new w) (λ addr v h.
    let n = new_found t.known new w.log (Word addr) v (w.exact (Word addr)) h in
    let e = found_in w.log (Word addr) v n.1 in
    (e.entry, e.among, e.at))

-- THE FETCH THAT FAILS
-- the log in parts: the walk, and the trap
record IsFailing (t : Turn) (tell : Teller) (log : List Entry) (change : Change) : Type 0 where
  walk : List Entry
  cause : Cause
  rest : List Entry
  walks : answer_told tell (fetch_script t) ≡ Does walk (Fails cause)
  traps : answer_told tell (trap t.fixed 0 cause t.fixed.pc) ≡ Does rest change
  log_is : log ≡ walk ++ rest

failing : (t : Turn) (causes : ℕ → Bool) (new : Known) → (w : IsFaultCandidate t causes new) → IsFailing t (by_known (enlarged t.known new)) w.log w.change
unfolding script at_address
failing t causes new w =
    let parts = then_done (fetch_script t) (arriving t.fixed 0 t.fixed.pc (fetched_at t.fixed)) (by_known (enlarged t.known new)) w.log w.change w.plays in
    let early = λ (g : Entry) (j : HasItem parts.0 g). (numbers_within 0 2 (fetch_script t) (by_known (enlarged t.known new)) parts.0 parts.1 (fetch_between t) parts.3 g j).1 in
    go parts.0 parts.1 parts.2 parts.3 parts.4 parts.5 (sym (label_past parts.0 parts.2 Fetched early) ∙ ap (λ (l : List Entry). labelled l Fetched) (sym parts.5) ∙ w.meets.fails)
  where
    go : (walk : List Entry) (a : Reached) (rest : List Entry) → answer_told (by_known (enlarged t.known new)) (fetch_script t) ≡ Does walk a → answer_told (by_known (enlarged t.known new)) (arriving t.fixed 0 t.fixed.pc (fetched_at t.fixed) a) ≡ Does rest w.change → w.log ≡ walk ++ rest
        → labelled rest Fetched ≡ None → IsFailing t (by_known (enlarged t.known new)) w.log w.change
    go walk (At pa) rest walks after split none = absurd (reads t (by_known (enlarged t.known new)) w.change pa rest after none)
    go walk (Fails cause) rest walks after split none = record { walk = walk; cause = cause; rest = rest; walks = walks; traps = after; log_is = split }

abbrev IsVector : Question → Type 0
IsVector q = label_of q ≡ FromVector

trap_vector : (f : Fixed) (word : ℕ) (cause : Cause) (value : ℕ) → Asks IsVector (trap f word cause value)
unfolding trap
trap_vector f word cause value = (refl, λ v. tt)

fault_log_is : (t : Turn) (causes : ℕ → Bool) (new : Known) → (w : IsFaultCandidate t causes new) → IsFetchLog t w.log
fault_log_is t causes new w =
    let tell : Teller = by_known (enlarged t.known new) in
    let p = failing t causes new w in
    let either = λ (e : Entry) (i : HasItem w.log e). has_either p.walk p.rest e (subst (λ (l : List Entry). HasItem l e) p.log_is i) in
    record {
      asked = λ e i. elim (either e i) [
        | inl j ↦ asked_by (IsOfFetch (root_word t)) (fetch_script t) tell p.walk (Fails p.cause) (fetch_asks t) p.walks e j
        | inr j ↦ asked_by (IsOfFetch (root_word t)) (trap t.fixed 0 p.cause t.fixed.pc) tell p.rest w.change (trap_asks (root_word t) t.fixed 0 p.cause t.fixed.pc) p.traps e j
      ];
      root = λ e i second. elim (either e i) [
        | inl j ↦ let r = root_asked t tell p.walk (Fails p.cause) p.walks e j in record { root = r.root; among = subst (λ (l : List Entry). HasItem l r.root) (sym p.log_is) (has_first p.walk p.rest r.root r.among); at = r.at; label = r.label }
        | inr j ↦ absurd (not_second e.question (asked_by IsVector (trap t.fixed 0 p.cause t.fixed.pc) tell p.rest w.change (trap_vector t.fixed 0 p.cause t.fixed.pc) p.traps e j) second)
      ];
      labels = labelled_one 0 10 (script t.fixed) tell w.log w.change (script_between t.fixed) w.plays;
    }
  where
    not_second : (q : Question) → label_of q ≡ FromVector → label_of q ≡ FetchSecond → ⊥
    not_second q h k = absurd (cc (sym h ∙ k))

pub fault_places_have_values : FaultPlacesHaveValues
fault_places_have_values t causes new w place v h =
    let tell : Teller = by_known (enlarged t.known new) in
    let is = fault_log_is t causes new w in
    let n = new_found t.known new w.log place v (w.exact place) h in
    let e = found_in w.log place v n.1 in
    let none : t.known (entry_place e.entry) ≡ None = ap t.known e.at ∙ n.0 in
    let given = given_fault t w.log (entry_label e.entry) e.entry (is.labels e.entry e.among) none (fault_numbers t tell w.log w.change w.plays w.meets.fails e.entry e.among) in
    sym e.is ∙ entry_here t (fault_key t causes new w) w.log is w.meets.once e.entry e.among none given ∙ ap (λ (q : Place). entry_value (fault_key t causes new w) (root_word t) q) e.at

pub fault_words_are_two : FaultWordsAreTwo
fault_words_are_two t causes new w = two_words t new w.log (fault_log_is t causes new w) (λ addr v h.
    let n = new_found t.known new w.log (Word addr) v (w.exact (Word addr)) h in
    let e = found_in w.log (Word addr) v n.1 in
    (e.entry, e.among, e.at))

abbrev Keeps : Change → Type 0
Keeps c = KeepsSatp c.control

trap_keeps : (f : Fixed) (word : ℕ) (cause : Cause) (value : ℕ) → Ends Keeps (trap f word cause value)
unfolding trap
trap_keeps f word cause value = λ v. tt

pub faults_keep_satp : FaultsKeepSatp
faults_keep_satp t causes new w =
    let p = failing t causes new w in
    ended Keeps (trap t.fixed 0 p.cause t.fixed.pc) (by_known (enlarged t.known new)) p.rest w.change (trap_keeps t.fixed 0 p.cause t.fixed.pc) p.traps

-- the cause is one of those of a fetch
abbrev HasFetchCause : Reached → Type 0
HasFetchCause (At pa) = Unit {0}
HasFetchCause (Fails cause) = is_fetch_cause (number_of cause) ≡ true

abbrev IsUnfetchedEnd : Fixed → Change → Type 0
IsUnfetchedEnd f c = is_unfetched (outcome_of f c.control) ≡ true

trap_unfetched : (f : Fixed) (word : ℕ) (cause : Cause) (value : ℕ) → is_fetch_cause (number_of cause) ≡ true → Ends (IsUnfetchedEnd f) (trap f word cause value)
unfolding trap
trap_unfetched f word cause value h = λ v. h

pub faults_are_unfetched : FaultsAreUnfetched
faults_are_unfetched t causes new w =
    let p = failing t causes new w in
    let tell : Teller = by_known (enlarged t.known new) in
    let cause = ended HasFetchCause (fetch_script t) tell p.walk (Fails p.cause) (translated_ends HasFetchCause t.fixed.ram (fetch_view t.fixed) ForFetch t.fixed.pc (λ pa. tt) refl refl) p.walks in
    ended (IsUnfetchedEnd t.fixed) (trap t.fixed 0 p.cause t.fixed.pc) tell p.rest w.change (trap_unfetched t.fixed 0 p.cause t.fixed.pc cause) p.traps
