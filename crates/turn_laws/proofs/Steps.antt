-- A step that is played, behind the places that it starts.
use Rattle.std.proofs.Common.{◌≡◌, ℕ, ◌%◌, ◌<◌, Bool, true, false, not, ◌&&◌, eqb, if◌then◌else◌, List, [], ◌∷◌, length, Option, Some, None, refl, sym, ap, ◌∙◌, subst, inl, inr, arith}
use Rattle.std.specs.List.{list_any}
use Rattle.std.proofs.lemmas.Bool.{and_from, and_parts, cases_lt, eqb-true, or_cases, or_left, or_right, true≢false}
use Rattle.std.proofs.lemmas.List.{get_or_past}
use Rattle.rv_script.specs.declared.access.Access.{Access}
use Rattle.rv_script.specs.declared.access.Role.{Role}
use Rattle.rv_script.specs.declared.place.Place.TheVariants.{Reg, Csr, Word}
use Rattle.rv_script.specs.Bytes.{covers, word_address}
use Rattle.rv_script.specs.Lists.{HasItem}
use Rattle.rv_script.specs.Script.{Question.OfRegister, Question.OfCsr, Question.OfMemory, Question.ToMemory, access_of, place_of, told as told_of, Script, Script.Ask, Script.Outside, Script.Done}
use Rattle.rv_script.specs.Folds.{Known, Teller, Answer, Answer.Does, Entry, by_known, noted, on_note, on_told, play}
use Rattle.rv_script.specs.Laws.{TellsMore}
use Rattle.rv_script.specs.Logs.{answer_told, enlarged, or_else, same_place}
use Rattle.rv_script.proofs.Plays.{first_asked, same_is}
use Rattle.rv_script.proofs.Wholes.{more_known}
use Rattle.rv_hart.specs.declared.record.Change.{Change}
use Rattle.rv_hart.specs.Fixed.{Fixed}
use Rattle.rv_hart.specs.Machine.{script}
use Rattle.foot_map.specs.declared.touch.Touch.{Touch}
use Rattle.foot_map.specs.Races.{IsFootprint, breaks}
use Rattle.foot_map.specs.Touches.{has, is_triple, same_role}
use Rattle.tpl_admit.specs.Races.{footprints_of}
use Rattle.part_clash.specs.Clashes.{Feet, HasNoStepClash}
use Rattle.part_machine.specs.Whole.{Whole, fixed_in, hart_of, next_of, record_in, records_of}
use Rattle.foot_map.proofs.Orders.{same_role_is}
use Rattle.part_state.specs.Meaning.{IsFit, IsFootOf, IsNamed, IsStartable, IsTest, place_given}
use Rattle.part_state.proofs.Probes.{IsDid, clear}
use Rattle.leaf_link.specs.Turns.{Turn, is_free, is_free_access}
use Rattle.leaf_link.specs.Candidates.{accesses_in}
use Rattle.turn_laws.specs.Given.{AreListed, CanGive, Setting, all_given, given_to, known_at, turn_at}
use Rattle.turn_laws.specs.Laws.{IsTaken}
use Rattle.turn_laws.specs.Played.{IsPlayed}
use Rattle.turn_laws.proofs.Places.{beside, fixed_parts, known, tests}
use Rattle.rv_script.specs.declared.place.Place.{Place}

-- ---- one play with other notes

noted_done : {A : Type 0} (o : Option Access) (xs : List Access) (a : A) → noted o (Does xs a) ≡ Does (on_note o xs) a
noted_done None xs a = refl
noted_done (Some x) xs a = refl

-- a script that is played with a log does the same with the accesses of the log
pub with_accesses : {A : Type 0} (s : Script A) (t : Teller) (log : List Entry) (a : A) → answer_told t s ≡ Does log a → play access_of t s ≡ Does (accesses_in log) a
with_accesses {A} (Ask q next) t log a h =
    let d = first_asked q next t log a h in
    let ih : play access_of t (next (told_of q d.0)) ≡ Does (accesses_in d.1) a = with_accesses (next (told_of q d.0)) t d.1 a d.3 in
    ap (λ (o : Option ℕ). on_told o (place_of q) (λ v. noted (access_of q v) (play access_of t (next (told_of q v))))) d.2
    ∙ ap (λ (r : Answer Access A). noted (access_of q d.0) r) ih
    ∙ noted_done (access_of q d.0) (accesses_in d.1) a
    ∙ ap (λ (l : List Entry). Does (accesses_in l) a) (sym d.4)
with_accesses Outside t log a h = absurd (cc)
with_accesses (Done b) t log a h = go log h
  where
    go : (l : List Entry) → Does [] b ≡ Does l a → Does [] b ≡ Does (accesses_in l) a
    go [] h = let same : b ≡ a = cc in ap (λ (z : _). Does [] z) same
    go (e ∷ l) h = absurd (cc)

-- what is known wherever a question asks is known of its place
pub tells : (old new : Known) → ((place : Place) → IsNamed place → new place ≡ old place) → ((n v : ℕ) → old (Reg n) ≡ Some v → n < 32) → TellsMore (by_known old) (by_known new)
tells old new same small (OfRegister label n) v h = same (Reg n) (small n v h) ∙ h
tells old new same small (OfCsr label addr) v h = same (Csr addr) tt ∙ h
tells old new same small (OfMemory label addr size) v h = same (Word (word_address addr)) (let e : word_address addr % 4 ≡ 0 = omega arith in e) ∙ h
tells old new same small (ToMemory addr size value) v h = same (Word (word_address addr)) (let e : word_address addr % 4 ≡ 0 = omega arith in e) ∙ h

-- ---- accesses of a log

-- the entry of an access
pub record HasEntry (log : List Entry) (x : Access) : Type 0 where
  pub entry : Entry
  pub among : HasItem log entry
  pub is : access_of entry.question entry.value ≡ Some x

here : (e : Entry) (log : List Entry) (x : Access) (o : Option Access) → access_of e.question e.value ≡ o → (HasItem (accesses_in log) x → HasEntry log x) → HasItem (on_note o (accesses_in log)) x → HasEntry (e ∷ log) x
here e log x None is rest i = let r = rest i in record { entry = r.entry; among = inr r.among; is = r.is }
here e log x (Some y) is rest (inl same) = record { entry = e; among = inl refl; is = is ∙ ap (λ (z : Access). Some z) same }
here e log x (Some y) is rest (inr later) = let r = rest later in record { entry = r.entry; among = inr r.among; is = r.is }

pub entry_at : (log : List Entry) (x : Access) → HasItem (accesses_in log) x → HasEntry log x
entry_at [] x i = absurd i
entry_at (e ∷ log) x i = here e log x (access_of e.question e.value) refl (entry_at log x) i

-- ---- no clash

-- a touch of the set breaks with an access on its byte
broken_held : (ts : List Touch) (x : Access) (k : ℕ) (b h : ℕ) (r : Role) → has ts b h r ≡ true → covers x b ≡ true → breaks (eqb h k) r x.role ≡ true
    → list_any (λ touch. covers x touch.byte && breaks (eqb touch.hart k) touch.role x.role) ts ≡ true
broken_held [] x k b h r held covered broken = absurd (cc)
broken_held (t ∷ ts) x k b h r held covered broken = elim (or_cases (is_triple t b h r) (has ts b h r) held) [
  | inl one ↦
      let p = and_parts (eqb t.byte b) (eqb t.hart h && same_role t.role r) one in
      let q = and_parts (eqb t.hart h) (same_role t.role r) p.1 in
      or_left _ _ (and_from _ _
      (subst (λ (n : ℕ). covers x n ≡ true) (sym (eqb-true t.byte b p.0)) covered)
      (subst (λ (s : Role). breaks (eqb t.hart k) s x.role ≡ true) (sym (same_role_is t.role r q.1)) (subst (λ (n : ℕ). breaks (eqb n k) r x.role ≡ true) (sym (eqb-true t.hart h q.0)) broken)))
  | inr other ↦ or_right _ _ (broken_held ts x k b h r other covered broken)
]

not_free : (a : Bool) → not a ≡ true → a ≡ true → ⊥
not_free true free is = absurd (cc)
not_free false free is = absurd (cc)

-- one of the step's own accesses in the role, on the byte
pub record HasOwn (xs : List Access) (b : ℕ) (r : Role) : Type 0 where
  pub access : Access
  pub among : HasItem xs access
  pub role : access.role ≡ r
  pub covered : covers access b ≡ true

own : (xs : List Access) (b : ℕ) (r : Role) → list_any (λ y. same_role y.role r && covers y b) xs ≡ true → HasOwn xs b r
own [] b r h = absurd (cc)
own (y ∷ xs) b r h = elim (or_cases (same_role y.role r && covers y b) (list_any (λ z. same_role z.role r && covers z b) xs) h) [
  | inl one ↦
      let p = and_parts (same_role y.role r) (covers y b) one in
      record { access = y; among = inl refl; role = same_role_is y.role r p.0; covered = p.1 }
  | inr other ↦ (let rest = own xs b r other in record { access = rest.access; among = inr rest.among; role = rest.role; covered = rest.covered })
]

-- its accesses clash with nothing that was done, and not with each other
no_clash : (t : Turn) (new : Known) (log : List Entry) (change : Change) (feet : Feet) (did : ℕ → List Access) (k : ℕ)
    → t.fixed.number ≡ k → IsFootOf feet did → IsFootprint t.feet did → IsPlayed t new log change → HasNoStepClash feet k (accesses_in log)
no_clash t new log change feet did k number foot footprint played clash is = elim (or_cases (feet clash.byte clash.hart clash.role) _ is.touched) [
  | inl before ↦
      let held : has t.feet clash.byte clash.hart clash.role ≡ true = (footprint clash.byte clash.hart clash.role).1 ((foot clash.byte clash.hart clash.role).0 before) in
      let e = entry_at log is.access is.among in
      let free : is_free t is.access ≡ true = ap (λ (o : Option Access). is_free_access t o) (sym e.is) ∙ played.free e.entry e.among in
      not_free _ free (broken_held t.feet is.access t.fixed.number clash.byte clash.hart clash.role held is.covered (subst (λ (n : ℕ). breaks (eqb clash.hart n) clash.role is.access.role ≡ true) (sym number) is.broken))
  | inr now ↦
      let p = and_parts (eqb clash.hart k) _ now in
      let y = own (accesses_in log) clash.byte clash.role p.1 in
      let apart : breaks true y.access.role is.access.role ≡ false = played.apart y.access is.access y.among is.among (clash.byte, y.covered, is.covered) in
      let broken : breaks (eqb clash.hart k) clash.role is.access.role ≡ true = is.broken in
      let same : breaks true clash.role is.access.role ≡ true = subst (λ (s : Bool). breaks s clash.role is.access.role ≡ true) p.0 broken in
      let wrong : breaks true y.access.role is.access.role ≡ true = subst (λ (r : Role). breaks true r is.access.role ≡ true) (sym y.role) same in
      absurd (true≢false (sym wrong ∙ apart))
]

-- ---- registers that a place can be

pub register_known : (k n v : ℕ) (w : Whole) → IsFit (hart_of k w) → known_at k w (Reg n) ≡ Some v → n < 32
register_known k n v w fit known = elim (cases_lt n 32) [
  | inl small ↦ small
  | inr past ↦
      let none : known_at k w (Reg n) ≡ None = get_or_past (hart_of k w).regs n None (omega (arith, fit.size, past)) in
      absurd (none_some (sym none ∙ known))
]
  where
    none_some : (None ≡ Some v) → ⊥
    none_some e = absurd (cc)

register_given_to : (k n v : ℕ) (es : List (Place × ℕ)) (w : Whole) → CanGive k es w → given_to es (Reg n) ≡ Some v → n < 32
register_given_to k n v [] w can h = absurd (cc)
register_given_to k n v (e ∷ es) w can h = go (same_place e.0 (Reg n)) refl h (register_given_to k n v es (place_given k e.0 e.1 w) can.3)
  where
    go : (same : Bool) → same_place e.0 (Reg n) ≡ same → (if same then Some e.1 else given_to es (Reg n)) ≡ Some v → (given_to es (Reg n) ≡ Some v → n < 32) → n < 32
    go true same j rest = let is : IsStartable w.ram (Reg n) = subst (λ (q : Place). IsStartable w.ram q) (same_is e.0 (Reg n) same) can.0.startable in is.1
    go false other j rest = rest j

-- ---- the step

taken_next : (s : Setting) (feet : List Touch) (k : ℕ) (w : Whole) (new : Known) (es : List (Place × ℕ)) (log : List Entry) (change : Change)
    → IsTest w → k < length w.harts → CanGive k es w → AreListed es new → IsPlayed (turn_at s feet k w) new log change
    → next_of k (all_given k es w) ≡ Does (accesses_in log) change
taken_next s feet k w new es log change test l can listed p =
    let old : Known = enlarged (known_at k w) new in
    let after : Whole = all_given k es w in
    let fixed : Fixed = fixed_in (hart_of k w) w.memory in
    let same : ((place : Place) → IsNamed place → known_at k after place ≡ old place) =
    λ place named. known k es w test l can place named ∙ ap (λ (o : Option ℕ). or_else (known_at k w place) o) (listed place) in
    let small : ((n v : ℕ) → old (Reg n) ≡ Some v → n < 32) = λ n v h. either n v (known_at k w (Reg n)) refl h in
    let played : play access_of (by_known old) (script fixed) ≡ Does (accesses_in log) change = with_accesses (script fixed) (by_known old) log change p.plays in
    ap (λ (f : Fixed). play access_of (by_known (known_at k after)) (script f)) (fixed_parts k es w test l can)
    ∙ more_known access_of (script fixed) (by_known old) (by_known (known_at k after)) (tells old (known_at k after) same small) (accesses_in log) change played
  where
    either : (n v : ℕ) (o : Option ℕ) → known_at k w (Reg n) ≡ o → or_else o (new (Reg n)) ≡ Some v → n < 32
    either n v (Some u) is h = register_known k n u w (test.fit k l) is
    either n v None is h = register_given_to k n v es w can (listed (Reg n) ∙ h)

pub taken : (s : Setting) (feet : List Touch) (k : ℕ) (w : Whole) (new : Known) (es : List (Place × ℕ)) (log : List Entry) (change : Change)
    → IsTest w → k < length w.harts → IsFootprint feet (footprints_of (λ j. records_of j w)) → CanGive k es w → AreListed es new
    → IsPlayed (turn_at s feet k w) new log change → IsTaken k log change (all_given k es w)
taken s feet k w new es log change test l footprint can listed p =
    let after : Whole = all_given k es w in
    let next = taken_next s feet k w new es log change test l can listed p in
    let b = beside k es w in
    let did : IsDid (fixed_in (hart_of k after) after.memory) (next_of k after) (record_in (hart_of k after) after.memory (accesses_in log) change) =
    record { accesses = accesses_in log; change = change; does = next; is = refl } in
    let none : HasNoStepClash w.feet k (accesses_in log) =
    no_clash (turn_at s feet k w) new log change w.feet (footprints_of (λ j. records_of j w)) k (test.number k l) test.foot footprint p in
    record {
      next = next;
      ready = record { accesses = accesses_in log; change = change; does = next };
      clear = clear k after (record_in (hart_of k after) after.memory (accesses_in log) change) (tests k es w test l can) did (subst (λ (f : Feet). HasNoStepClash f k (accesses_in log)) (sym b.feet) none);
    }
