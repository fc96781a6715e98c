-- The problems of fetches are those of their ways.
use Rattle.std.proofs.Common.{◌≡◌, ℕ, ◌+◌, ◌<◌, ◌≤◌, ◌^◌, ◌⊎◌, Bool, true, false, ◌&&◌, ◌||◌, ◌==◌, eq-eqb, List, [], ◌∷◌, ◌++◌, Option, Some, None, refl, sym, ap, ◌∙◌, subst, inl, inr, arith, append_assoc, drop, get_or, length, suc}
use Rattle.std.specs.Prelude.{if◌then◌else◌, nat_eq, nat_lt, slice_index_or}
use Rattle.std.specs.List.{list_all, list_any}
use Rattle.std.proofs.Math.Seq.{drop-cons}
use Rattle.std.proofs.lemmas.Bool.{and_from, and_parts}
use Rattle.std.proofs.lemmas.List.{append-nil, drop_all}
use Rattle.dom_set.specs.Elements.{is_in}
use Rattle.rv_csr.specs.declared.cause.Cause.{Cause}
use Rattle.rv_csr.specs.declared.privilege.Priv.{Priv}
use Rattle.rv_csr.specs.Causes.{number_of as cause_number}
use Rattle.rv_csr.specs.Traps.{takes_trap, vector_register}
use Rattle.rv_isa.specs.Numbers.{op_numbered}
use Rattle.rv_script.specs.declared.place.Place.TheVariants.{Csr}
use Rattle.rv_script.specs.Folds.{Answer, Answer.Does, Entry, Teller}
use Rattle.rv_script.specs.Labels.{label_number}
use Rattle.rv_script.specs.Lists.{HasItem}
use Rattle.rv_script.specs.Logs.{answer_told, by_answers, entry_label, entry_place, log_of, or_given}
use Rattle.rv_script.specs.Script.{Label, Label.FetchRoot, Label.FetchSecond, Label.Fetched, Label.FromRs1, Label.FromRs2, Label.FromCsr, Label.DataRoot, Label.DataSecond, Label.DataWord, Label.FromVector}
use Rattle.rv_script.proofs.Plays.{numbers_within, play_same, told}
use Rattle.rv_hart.specs.Machine.{fetch_view}
use Rattle.rv_hart.specs.Privileged.{lazy_address}
use Rattle.sv_walk.specs.declared.entry.Kind.TheVariants.{Fetch as ForFetch}
use Rattle.sv_walk.specs.Translation.{Reached, At, Fails}
use Rattle.sv_walk.proofs.Orders.{translated_between}
use Rattle.fd_prob.specs.declared.problem.Assignment.{Assignment}
use Rattle.fd_prob.specs.declared.problem.Case.{Case as ACase}
use Rattle.fd_prob.specs.declared.relation.Rel.{Rel}
use Rattle.fd_prob.specs.declared.slot.Slot.{Slot}
use Rattle.fd_prob.specs.declared.slot.Slot.TheVariants as slots
use Rattle.fd_prob.specs.declared.slot.TheConstants.{SLOTS}
use Rattle.fd_prob.specs.Fitting.{IsCase, domain_of, fits_case}
use Rattle.fd_prob.specs.Relations.{holds, value_of}
use Rattle.fd_prob.specs.Slots.{slot_number}
use Rattle.fd_prob.proofs.Fitted.{all_within, each_within}
use Rattle.fetch_ways.specs.declared.way.FetchEnd.{FetchEnd}
use Rattle.fetch_ways.specs.declared.way.FetchEnd.TheVariants as ends
use Rattle.fetch_ways.specs.declared.way.FetchWay.{FetchWay}
use Rattle.fetch_ways.specs.Ways.{AreFetchWays, keeps, reached_by}
use Rattle.leaf_link.specs.Turns.{Turn, is_free_entry}
use Rattle.leaf_link.specs.Values.{Values, given_by}
use Rattle.leaf_link.specs.Cases.{Case, Fits, FitsCase, case_if, is_some_word}
use Rattle.leaf_link.specs.Kinds.{is_vector, vector_at}
use Rattle.leaf_link.specs.Answers.{values_in}
use Rattle.leaf_link.specs.Firsts.{IsDomain}
use Rattle.leaf_link.specs.Fetches.{fetch_script}
use Rattle.leaf_link.specs.FetchRows.{AreFetchRows, FetchRow, FetchWalks, entry_domain, entry_values, fetch_case, fetch_case_to, fetch_cases, fetch_keeps, fetch_log}
use Rattle.leaf_link.specs.FaultRows.{fault_case, fault_case_to, fault_cases, fault_domain}
use Rattle.leaf_link.specs.FetchAnswers.{IsFetchFirst, IsFetchProblem, fetch_domain, is_fetched_slot}
use Rattle.leaf_stand.specs.declared.shape.End.{End}
use Rattle.leaf_stand.specs.declared.shape.End.TheVariants.{Retires, Traps}
use Rattle.leaf_stand.specs.declared.stand.Stand.{Stand}
use Rattle.leaf_stand.specs.Internal.FirstCases.{IsFetchFirstCase, fetch_first_at}
use Rattle.leaf_stand.specs.Posed.{FitsSame}
use Rattle.data_bytes.specs.Sets.{IsSetOf}
use Rattle.leaf_stand.specs.Sets.{AreDomains}
use Rattle.leaf_stand.specs.Stands.{turn_of}
use Rattle.leaf_stand.proofs.Fits.{fits_either, fits_left, fits_right, none_yet}
use Rattle.leaf_stand.proofs.Lists.{each_domain}
use Rattle.leaf_stand.proofs.Single.{domain_in_case, fits_from, number_of, within_of, word_at}
use Rattle.leaf_pose.specs.Fetches.{AddsCases, AreFetchPivots, IsFetchStand, PosesFault, PosesFetch, case_by, cases_by, entries_at, entries_case, fault_end, fetch_end}
use Rattle.leaf_pose.proofs.Leading.{found_here}
use Rattle.leaf_pose.proofs.Shapes.{pushed}
use Rattle.leaf_pose.proofs.Steps.{no_more, none_fits, nothing_fits, one_more, then_more}

pub fetch_pivots_are : (draws : List ℕ) → AreFetchPivots draws (0 ∷ 0 ∷ 0 ∷ 0 ∷ 0 ∷ 0 ∷ 0 ∷ 0 ∷ 0 ∷ get_or draws 0 0 ∷ get_or draws 1 0 ∷ 0 ∷ 0 ∷ get_or draws 15 0 ∷ [])
fetch_pivots_are draws slots.FirstPte h = refl
fetch_pivots_are draws slots.SecondPte h = refl
fetch_pivots_are draws slots.Vector h = refl
fetch_pivots_are draws slots.Op h = absurd (cc h)
fetch_pivots_are draws _ h = absurd (cc h)

-- THE CASE OF A WAY
or_none : (a : Bool) → (a || false) ≡ true → a ≡ true
or_none true h = refl
or_none false h = h

pub entries_fit : (s : Stand) (way : FetchWay) (end : End) (c : ACase) → c.op ≡ 0 → AreDomains (entries_at (turn_of s) way end) SLOTS c.doms → c.rels ≡ [] → FitsSame (c ∷ []) (entries_case (turn_of s) way end ∷ [])
entries_fit s way end c n d r x hx = (there, back)
  where
    inside : (slot : Slot) → is_in (domain_of c slot) (value_of x slot) ≡ entries_at (turn_of s) way end slot (value_of x slot)
    inside slot =
        ap (λ (set : List ℕ). is_in set (value_of x slot)) (domain_in_case c slot)
        ∙ each_domain (λ q set. IsSetOf (entries_at (turn_of s) way end q) set) c.doms d slot (value_of x slot) (word_at x hx slot)

    there : list_any (fits_case x) (c ∷ []) ≡ true → Fits (entries_case (turn_of s) way end ∷ []) (values_in x)
    there h =
        let k = or_none (fits_case x c) h in
        inl (record { op = number_of x c k ∙ n; each = λ slot. sym (inside slot) ∙ each_within c x (within_of x c k) slot; holds = refl })

    back : Fits (entries_case (turn_of s) way end ∷ []) (values_in x) → list_any (fits_case x) (c ∷ []) ≡ true
    back (inl f) =
        ap (λ (y : Bool). y || false) (fits_from x c (f.op ∙ sym n) (all_within c x (λ slot. inside slot ∙ f.each slot)) (ap (λ (l : List Rel). list_all (holds (op_numbered c.op) x) l) r))
    back (inr f) = absurd f

-- CASES THAT COME TO OTHERS
pub nothing_comes : (old : List ACase) → AddsCases old old []
nothing_comes old = record {
  shape = λ all. all;
  fits = no_more old [] none_yet;
  rest = [];
  behind = sym (append-nil old);
}

pub one_comes : (old new : List ACase) (c : ACase) (ds : List Case) → new ≡ old ++ c ∷ [] → IsCase c → FitsSame (c ∷ []) ds → AddsCases old new ds
one_comes old new c ds e is fits = record {
  shape = pushed IsCase old new c e is;
  fits = one_more old new c ds e fits;
  rest = c ∷ [];
  behind = e;
}

then_comes : (a b c : List ACase) (ds es : List Case) → AddsCases a b ds → AddsCases b c es → AddsCases a c (ds ++ es)
then_comes a b c ds es h k = record {
  shape = λ all. k.shape (h.shape all);
  fits = then_more a b c ds es h.fits k.fits;
  rest = h.rest ++ k.rest;
  behind = k.behind ∙ ap (λ (l : List ACase). l ++ k.rest) h.behind ∙ append_assoc a h.rest k.rest;
}

pub next_comes : (to : FetchEnd → Option End) (t : Turn) (ways : List FetchWay) (i : ℕ) (way : FetchWay) (o : Option End) (a b end : List ACase) → i < length ways → way ≡ get_or ways i way → o ≡ to way.end → AddsCases a b (case_by t way o)
    → AddsCases b end (cases_by to t (drop (i + 1) ways)) → AddsCases a end (cases_by to t (drop i ways))
next_comes to t ways i way o a b end lt here ends step rest =
    let n : i + 1 ≡ suc i = omega arith in
    let e : drop i ways ≡ way ∷ drop (i + 1) ways = drop-cons ways i way lt ∙ ap (λ (m : ℕ). get_or ways i way ∷ drop m ways) (sym n) ∙ ap (λ (w : FetchWay). w ∷ drop (i + 1) ways) (sym here) in
    let own : AddsCases a b (case_by t way (to way.end)) = subst (λ (p : Option End). AddsCases a b (case_by t way p)) ends step in
    subst (λ (l : List FetchWay). AddsCases a end (cases_by to t l)) (sym e) (then_comes a b end (case_by t way (to way.end)) (cases_by to t (drop (i + 1) ways)) own rest)

pub none_comes : (to : FetchEnd → Option End) (t : Turn) (ways : List FetchWay) (i : ℕ) (a : List ACase) → length ways ≤ i → AddsCases a a (cases_by to t (drop i ways))
none_comes to t ways i a le = subst (λ (l : List FetchWay). AddsCases a a (cases_by to t l)) (sym (drop_all i ways le)) (nothing_comes a)

-- WHICH WAY VALUES FIT
record HasWayOf (to : FetchEnd → Option End) (t : Turn) (ways : List FetchWay) (x : Values) : Type 0 where
  way : FetchWay
  is : HasItem ways way
  end : End
  ends : to way.end ≡ Some end
  fits : FitsCase (entries_case t way end) x

way_found : (to : FetchEnd → Option End) (t : Turn) (ways : List FetchWay) (x : Values) → Fits (cases_by to t ways) x → HasWayOf to t ways x
way_found to t [] x f = absurd f
way_found to t (way ∷ ways) x f = elim (fits_either (case_by t way (to way.end)) (cases_by to t ways) x f) [
  | inl g ↦ here (to way.end) refl g
  | inr g ↦ let k = way_found to t ways x g in record { way = k.way; is = inr k.is; end = k.end; ends = k.ends; fits = k.fits }
]
  where
    here : (o : Option End) → to way.end ≡ o → Fits (case_by t way o) x → HasWayOf to t (way ∷ ways) x
    here None e g = absurd g
    here (Some end) e (inl g) = record { way = way; is = inl refl; end = end; ends = e; fits = g }
    here (Some end) e (inr g) = absurd g

way_there : (to : FetchEnd → Option End) (t : Turn) (ways : List FetchWay) (way : FetchWay) (end : End) (x : Values) → HasItem ways way → to way.end ≡ Some end → FitsCase (entries_case t way end) x → Fits (cases_by to t ways) x
way_there to t [] way end x i e f = absurd i
way_there to t (head ∷ ways) way end x i e f = elim i [
  | inl y ↦
      fits_left (case_by t head (to head.end)) (cases_by to t ways) x
      (subst (λ (w : FetchWay). Fits (case_by t w (to w.end)) x) (sym y) (subst (λ (o : Option End). Fits (case_by t way o) x) (sym e) (inl f)))
  | inr j ↦ fits_right (case_by t head (to head.end)) (cases_by to t ways) x (way_there to t ways way end x j e f)
]

-- WHICH ROW VALUES FIT
record HasFetchRow (t : Turn) (rows : List FetchRow) (x : Values) : Type 0 where
  row : FetchRow
  is : HasItem rows row
  pa : ℕ
  ends : row.end ≡ At pa
  fits : FitsCase (fetch_case t row pa) x

fetch_row_found : (t : Turn) (rows : List FetchRow) (x : Values) → Fits (fetch_cases t rows) x → HasFetchRow t rows x
fetch_row_found t [] x f = absurd f
fetch_row_found t (row ∷ rows) x f = go row.end refl f (fetch_row_found t rows x)
  where
    go : (end : Reached) → row.end ≡ end → Fits (fetch_case_to t row end (fetch_cases t rows)) x → (Fits (fetch_cases t rows) x → HasFetchRow t rows x) → HasFetchRow t (row ∷ rows) x
    go (At pa) e (inl g) more = record { row = row; is = inl refl; pa = pa; ends = e; fits = g }
    go (At pa) e (inr g) more = let k = more g in record { row = k.row; is = inr k.is; pa = k.pa; ends = k.ends; fits = k.fits }
    go (Fails cause) e g more = let k = more g in record { row = k.row; is = inr k.is; pa = k.pa; ends = k.ends; fits = k.fits }

fetch_row_there : (t : Turn) (rows : List FetchRow) (row : FetchRow) (pa : ℕ) (x : Values) → HasItem rows row → row.end ≡ At pa → FitsCase (fetch_case t row pa) x → Fits (fetch_cases t rows) x
fetch_row_there t [] row pa x i e f = absurd i
fetch_row_there t (head ∷ rows) row pa x i e f = elim i [
  | inl y ↦ subst (λ (r : FetchRow). Fits (fetch_case_to t r r.end (fetch_cases t rows)) x) (sym y) (subst (λ (end : Reached). Fits (fetch_case_to t row end (fetch_cases t rows)) x) (sym e) (inl f))
  | inr j ↦ later head.end (fetch_row_there t rows row pa x j e f)
]
  where
    later : (end : Reached) → Fits (fetch_cases t rows) x → Fits (fetch_case_to t head end (fetch_cases t rows)) x
    later (At at) g = inr g
    later (Fails cause) g = g

record HasFaultRow (t : Turn) (causes : ℕ → Bool) (rows : List FetchRow) (x : Values) : Type 0 where
  row : FetchRow
  is : HasItem rows row
  cause : Cause
  ends : row.end ≡ Fails cause
  listed : causes (cause_number cause) ≡ true
  fits : FitsCase (fault_case t row cause) x

put_case : (b : Bool) (c : Case) (cs : List Case) (x : Values) → b ≡ true → FitsCase c x → Fits (case_if b c cs) x
put_case true c cs x e f = inl f
put_case false c cs x e f = absurd (cc e)

skip_case : (b : Bool) (c : Case) (cs : List Case) (x : Values) → Fits cs x → Fits (case_if b c cs) x
skip_case true c cs x f = inr f
skip_case false c cs x f = f

one_or_later : (b : Bool) (c : Case) (cs : List Case) (x : Values) → Fits (case_if b c cs) x → ((b ≡ true) × FitsCase c x) ⊎ Fits cs x
one_or_later true c cs x (inl f) = inl (refl, f)
one_or_later true c cs x (inr f) = inr f
one_or_later false c cs x f = inr f

fault_row_found : (t : Turn) (causes : ℕ → Bool) (rows : List FetchRow) (x : Values) → Fits (fault_cases t causes rows) x → HasFaultRow t causes rows x
fault_row_found t causes [] x f = absurd f
fault_row_found t causes (row ∷ rows) x f = go row.end refl f (fault_row_found t causes rows x)
  where
    go : (end : Reached) → row.end ≡ end → Fits (fault_case_to t causes row end (fault_cases t causes rows)) x → (Fits (fault_cases t causes rows) x → HasFaultRow t causes rows x) → HasFaultRow t causes (row ∷ rows) x
    go (At pa) e g more = let k = more g in record { row = k.row; is = inr k.is; cause = k.cause; ends = k.ends; listed = k.listed; fits = k.fits }
    go (Fails cause) e g more = elim (one_or_later (causes (cause_number cause)) (fault_case t row cause) (fault_cases t causes rows) x g) [
      | inl y ↦ record { row = row; is = inl refl; cause = cause; ends = e; listed = y.0; fits = y.1 }
      | inr j ↦ let k = more j in record { row = k.row; is = inr k.is; cause = k.cause; ends = k.ends; listed = k.listed; fits = k.fits }
    ]

fault_row_there : (t : Turn) (causes : ℕ → Bool) (rows : List FetchRow) (row : FetchRow) (cause : Cause) (x : Values) → HasItem rows row → row.end ≡ Fails cause → causes (cause_number cause) ≡ true → FitsCase (fault_case t row cause) x
    → Fits (fault_cases t causes rows) x
fault_row_there t causes [] row cause x i e l f = absurd i
fault_row_there t causes (head ∷ rows) row cause x i e l f = elim i [
  | inl y ↦
      subst (λ (r : FetchRow). Fits (fault_case_to t causes r r.end (fault_cases t causes rows)) x) (sym y)
      (subst (λ (end : Reached). Fits (fault_case_to t causes row end (fault_cases t causes rows)) x) (sym e) (put_case (causes (cause_number cause)) (fault_case t row cause) (fault_cases t causes rows) x l f))
  | inr j ↦ later head.end (fault_row_there t causes rows row cause x j e l f)
]
  where
    later : (end : Reached) → Fits (fault_cases t causes rows) x → Fits (fault_case_to t causes head end (fault_cases t causes rows)) x
    later (At at) g = g
    later (Fails other) g = skip_case (causes (cause_number other)) (fault_case t head other) (fault_cases t causes rows) x g

-- WHAT THE TRANSLATION ASKS
-- it asks for the two entries alone, so values with the same ones tell it the same
same_given : (x : Values) (l : Label) → label_number l < 2 → given_by x l ≡ given_by (entry_values (x slots.FirstPte) (x slots.SecondPte)) l
same_given x FetchRoot h = refl
same_given x FetchSecond h = refl
same_given x Fetched h = absurd (omega (arith, h))
same_given x FromRs1 h = absurd (omega (arith, h))
same_given x FromRs2 h = absurd (omega (arith, h))
same_given x FromCsr h = absurd (omega (arith, h))
same_given x DataRoot h = absurd (omega (arith, h))
same_given x DataSecond h = absurd (omega (arith, h))
same_given x DataWord h = absurd (omega (arith, h))
same_given x FromVector h = absurd (omega (arith, h))

asks_early : (t : Turn) (tell : Teller) (log : List Entry) (end : Reached) → answer_told tell (fetch_script t) ≡ Does log end → (e : Entry) → HasItem log e → label_number (entry_label e) < 2
asks_early t tell log end h e i = (numbers_within 0 2 (fetch_script t) tell log end (translated_between 0 t.fixed.ram (fetch_view t.fixed) ForFetch t.fixed.pc refl refl) h e i).1

same_log : (t : Turn) (x : Values) (log : List Entry) (end : Reached) → FetchWalks t (x slots.FirstPte) (x slots.SecondPte) log end → fetch_log t x ≡ log
same_log t x log end w =
    let tell : Teller = by_answers t.known (given_by (entry_values (x slots.FirstPte) (x slots.SecondPte))) in
    ap (λ (a : Answer Entry Reached). log_of a) (play_same (fetch_script t) tell (by_answers t.known (given_by x)) log end w.plays (λ e i.
    ap (λ (v : ℕ). or_given (t.known (entry_place e)) v) (same_given x (entry_label e) (asks_early t tell log end w.plays e i)) ∙ told (fetch_script t) tell log end w.plays e i))

-- ENDS
same_some : (a b : End) → Some a ≡ Some b → a ≡ b
same_some a b h = cc

record LeadsTo (to : FetchEnd) (end : End) : Type 0 where
  pa : ℕ
  is : reached_by to ≡ At pa
  retires : end ≡ Retires

leads_to : (to : FetchEnd) (end : End) → fetch_end to ≡ Some end → LeadsTo to end
leads_to (ends.At pa) end h = record { pa = pa; is = refl; retires = sym (same_some Retires end h) }
leads_to (ends.Fails cause) end h = absurd (cc h)

leads_by : (to : FetchEnd) (pa : ℕ) → reached_by to ≡ At pa → fetch_end to ≡ Some Retires
leads_by (ends.At at) pa h = refl
leads_by (ends.Fails cause) pa h = absurd (cc h)

record FailsWith (causes : List ℕ) (to : FetchEnd) (end : End) : Type 0 where
  cause : Cause
  is : reached_by to ≡ Fails cause
  listed : is_in causes (cause_number cause) ≡ true
  traps : end ≡ Traps cause

fails_with : (causes : List ℕ) (to : FetchEnd) (end : End) → fault_end causes to ≡ Some end → FailsWith causes to end
fails_with causes (ends.At pa) end h = absurd (cc h)
fails_with causes (ends.Fails cause) end h = of_bool (is_in causes (cause_number cause)) refl h
  where
    of_bool : (b : Bool) → is_in causes (cause_number cause) ≡ b → (if b then Some (Traps cause) else None) ≡ Some end → FailsWith causes (ends.Fails cause) end
    of_bool true e k = record { cause = cause; is = refl; listed = e; traps = sym (same_some (Traps cause) end k) }
    of_bool false e k = absurd (cc k)

same_cause : (a b : Cause) → Fails a ≡ Fails b → a ≡ b
same_cause a b h = cc

fails_by : (causes : List ℕ) (to : FetchEnd) (cause : Cause) → reached_by to ≡ Fails cause → is_in causes (cause_number cause) ≡ true → fault_end causes to ≡ Some (Traps cause)
fails_by causes (ends.At pa) cause h l = absurd (cc h)
fails_by causes (ends.Fails other) cause h l =
    let e : other ≡ cause = same_cause other cause h in
    ap (λ (c : Cause). fault_end causes (ends.Fails c)) e ∙ ap (λ (b : Bool). if b then Some (Traps cause) else None) l

-- THE STAND AND THE TURN
vector_moves : (s : Stand) (t : Turn) (first second : List ℕ) (space : ℕ) → IsFetchStand s t first second space → (cause : Cause) (v : ℕ) → is_vector (turn_of s) cause v ≡ is_vector t cause v
vector_moves s t first second space h cause v =
    let place : vector_at t.fixed cause ≡ vector_at (turn_of s).fixed cause =
    ap (λ (m : ℕ). lazy_address (vector_register (takes_trap m t.fixed.privilege (cause_number cause)))) h.medeleg
    ∙ ap (λ (p : Priv). lazy_address (vector_register (takes_trap s.csrs.medeleg p (cause_number cause)))) h.privilege in
    sym (ap (λ (a : ℕ). if is_some_word (t.known (Csr a)) then nat_eq v 0 else (nat_lt v (2 ^ 32) && is_in t.vectors v)) place
    ∙ ap (λ (o : Option ℕ). if is_some_word o then nat_eq v 0 else (nat_lt v (2 ^ 32) && is_in t.vectors v)) (h.csrs (vector_at (turn_of s).fixed cause))
    ∙ ap (λ (l : List ℕ). if is_some_word ((turn_of s).known (Csr (vector_at (turn_of s).fixed cause))) then nat_eq v 0 else (nat_lt v (2 ^ 32) && is_in l v)) h.vectors)

-- THE FETCH OF A `do` LEAF
fetch_there : (s : Stand) (t : Turn) (ways : List FetchWay) (rows : List FetchRow) → AreFetchWays t ways → AreFetchRows t rows → (x : Values) → Fits (cases_by fetch_end (turn_of s) ways) x → Fits (fetch_cases t rows) x
fetch_there s t ways rows are rows_are x f =
    let c = way_found fetch_end (turn_of s) ways x f in
    let to = leads_to c.way.end c.end c.ends in
    let g : FitsCase (entries_case (turn_of s) c.way Retires) x = subst (λ (end : End). FitsCase (entries_case (turn_of s) c.way end) x) to.retires c.fits in
    let w = are.sound c.way c.is (x slots.FirstPte) (x slots.SecondPte) (g.each slots.FirstPte) (g.each slots.SecondPte) in
    let walks : FetchWalks t (x slots.FirstPte) (x slots.SecondPte) w.0 (At to.pa) = subst (λ (end : Reached). FetchWalks t (x slots.FirstPte) (x slots.SecondPte) w.0 end) to.is w.1 in
    let keep : fetch_keeps t w.0 to.pa ≡ true = subst (λ (end : Reached). keeps t w.0 end ≡ true) to.is w.2 in
    let r = rows_are.complete (x slots.FirstPte) (x slots.SecondPte) w.0 (At to.pa) walks in
    fetch_row_there t rows r.0 to.pa x r.1 r.3
    (record { op = g.op; each = of_slot c.way g.each; holds = and_from (r.0.holds (x slots.FirstPte) (x slots.SecondPte)) (fetch_keeps t (fetch_log t x) to.pa) r.2 (ap (λ (l : List Entry). fetch_keeps t l to.pa) (same_log t x w.0 (At to.pa) walks) ∙ keep) })
  where
    of_slot : (way : FetchWay) → ((slot : Slot) → entries_at (turn_of s) way Retires slot (x slot) ≡ true) → (slot : Slot) → entry_domain slot (x slot) ≡ true
    of_slot way each slots.FirstPte = refl
    of_slot way each slots.SecondPte = refl
    of_slot way each slots.Vector = each slots.Vector
    of_slot way each slots.Op = each slots.Op
    of_slot way each slots.Rs1 = each slots.Rs1
    of_slot way each slots.Rs2 = each slots.Rs2
    of_slot way each slots.Imm = each slots.Imm
    of_slot way each slots.Rd = each slots.Rd
    of_slot way each slots.Csr = each slots.Csr
    of_slot way each slots.Ea = each slots.Ea
    of_slot way each slots.A = each slots.A
    of_slot way each slots.B = each slots.B
    of_slot way each slots.DataWord = each slots.DataWord
    of_slot way each slots.OldCsr = each slots.OldCsr

fetch_back : (s : Stand) (t : Turn) (ways : List FetchWay) (rows : List FetchRow) → AreFetchWays t ways → AreFetchRows t rows → (x : Values) → Fits (fetch_cases t rows) x → Fits (cases_by fetch_end (turn_of s) ways) x
fetch_back s t ways rows are rows_are x f =
    let r = fetch_row_found t rows x f in
    let h = and_parts (r.row.holds (x slots.FirstPte) (x slots.SecondPte)) (fetch_keeps t (fetch_log t x) r.pa) r.fits.holds in
    let w = rows_are.sound r.row r.is (x slots.FirstPte) (x slots.SecondPte) h.0 in
    let walks : FetchWalks t (x slots.FirstPte) (x slots.SecondPte) w.0 (At r.pa) = subst (λ (end : Reached). FetchWalks t (x slots.FirstPte) (x slots.SecondPte) w.0 end) r.ends w.1 in
    let keep : fetch_keeps t w.0 r.pa ≡ true = ap (λ (l : List Entry). fetch_keeps t l r.pa) (sym (same_log t x w.0 (At r.pa) walks)) ∙ h.1 in
    let k = are.complete (x slots.FirstPte) (x slots.SecondPte) w.0 (At r.pa) walks keep in
    way_there fetch_end (turn_of s) ways k.0 Retires x k.1 (leads_by k.0.end r.pa k.4) (record { op = r.fits.op; each = of_slot k.0 k.2 k.3 r.fits.each; holds = refl })
  where
    of_slot : (way : FetchWay) → is_in way.first (x slots.FirstPte) ≡ true → is_in way.second (x slots.SecondPte) ≡ true → ((slot : Slot) → entry_domain slot (x slot) ≡ true) → (slot : Slot) → entries_at (turn_of s) way Retires slot (x slot) ≡ true
    of_slot way a b each slots.FirstPte = a
    of_slot way a b each slots.SecondPte = b
    of_slot way a b each slots.Vector = each slots.Vector
    of_slot way a b each slots.Op = each slots.Op
    of_slot way a b each slots.Rs1 = each slots.Rs1
    of_slot way a b each slots.Rs2 = each slots.Rs2
    of_slot way a b each slots.Imm = each slots.Imm
    of_slot way a b each slots.Rd = each slots.Rd
    of_slot way a b each slots.Csr = each slots.Csr
    of_slot way a b each slots.Ea = each slots.Ea
    of_slot way a b each slots.A = each slots.A
    of_slot way a b each slots.B = each slots.B
    of_slot way a b each slots.DataWord = each slots.DataWord
    of_slot way a b each slots.OldCsr = each slots.OldCsr

-- THE FETCH THAT FAILS
fault_there : (s : Stand) (t : Turn) (first second : List ℕ) (space : ℕ) → IsFetchStand s t first second space → (ways : List FetchWay) (rows : List FetchRow) → AreFetchWays t ways → AreFetchRows t rows → (causes : List ℕ) (x : Values)
    → Fits (cases_by (fault_end causes) (turn_of s) ways) x → Fits (fault_cases t (is_in causes) rows) x
fault_there s t first second space stands ways rows are rows_are causes x f =
    let c = way_found (fault_end causes) (turn_of s) ways x f in
    let to = fails_with causes c.way.end c.end c.ends in
    let g : FitsCase (entries_case (turn_of s) c.way (Traps to.cause)) x = subst (λ (end : End). FitsCase (entries_case (turn_of s) c.way end) x) to.traps c.fits in
    let w = are.sound c.way c.is (x slots.FirstPte) (x slots.SecondPte) (g.each slots.FirstPte) (g.each slots.SecondPte) in
    let walks : FetchWalks t (x slots.FirstPte) (x slots.SecondPte) w.0 (Fails to.cause) = subst (λ (end : Reached). FetchWalks t (x slots.FirstPte) (x slots.SecondPte) w.0 end) to.is w.1 in
    let keep : list_all (is_free_entry t) w.0 ≡ true = subst (λ (end : Reached). keeps t w.0 end ≡ true) to.is w.2 in
    let r = rows_are.complete (x slots.FirstPte) (x slots.SecondPte) w.0 (Fails to.cause) walks in
    fault_row_there t (is_in causes) rows r.0 to.cause x r.1 r.3 to.listed
    (record { op = g.op; each = of_slot c.way to.cause g.each; holds = and_from (r.0.holds (x slots.FirstPte) (x slots.SecondPte)) (list_all (is_free_entry t) (fetch_log t x)) r.2 (ap (λ (l : List Entry). list_all (is_free_entry t) l) (same_log t x w.0 (Fails to.cause) walks) ∙ keep) })
  where
    of_slot : (way : FetchWay) (cause : Cause) → ((slot : Slot) → entries_at (turn_of s) way (Traps cause) slot (x slot) ≡ true) → (slot : Slot) → fault_domain t cause slot (x slot) ≡ true
    of_slot way cause each slots.FirstPte = refl
    of_slot way cause each slots.SecondPte = refl
    of_slot way cause each slots.Vector = sym (vector_moves s t first second space stands cause (x slots.Vector)) ∙ each slots.Vector
    of_slot way cause each slots.Op = each slots.Op
    of_slot way cause each slots.Rs1 = each slots.Rs1
    of_slot way cause each slots.Rs2 = each slots.Rs2
    of_slot way cause each slots.Imm = each slots.Imm
    of_slot way cause each slots.Rd = each slots.Rd
    of_slot way cause each slots.Csr = each slots.Csr
    of_slot way cause each slots.Ea = each slots.Ea
    of_slot way cause each slots.A = each slots.A
    of_slot way cause each slots.B = each slots.B
    of_slot way cause each slots.DataWord = each slots.DataWord
    of_slot way cause each slots.OldCsr = each slots.OldCsr

fault_back : (s : Stand) (t : Turn) (first second : List ℕ) (space : ℕ) → IsFetchStand s t first second space → (ways : List FetchWay) (rows : List FetchRow) → AreFetchWays t ways → AreFetchRows t rows → (causes : List ℕ) (x : Values)
    → Fits (fault_cases t (is_in causes) rows) x → Fits (cases_by (fault_end causes) (turn_of s) ways) x
fault_back s t first second space stands ways rows are rows_are causes x f =
    let r = fault_row_found t (is_in causes) rows x f in
    let h = and_parts (r.row.holds (x slots.FirstPte) (x slots.SecondPte)) (list_all (is_free_entry t) (fetch_log t x)) r.fits.holds in
    let w = rows_are.sound r.row r.is (x slots.FirstPte) (x slots.SecondPte) h.0 in
    let walks : FetchWalks t (x slots.FirstPte) (x slots.SecondPte) w.0 (Fails r.cause) = subst (λ (end : Reached). FetchWalks t (x slots.FirstPte) (x slots.SecondPte) w.0 end) r.ends w.1 in
    let keep : list_all (is_free_entry t) w.0 ≡ true = ap (λ (l : List Entry). list_all (is_free_entry t) l) (sym (same_log t x w.0 (Fails r.cause) walks)) ∙ h.1 in
    let k = are.complete (x slots.FirstPte) (x slots.SecondPte) w.0 (Fails r.cause) walks keep in
    way_there (fault_end causes) (turn_of s) ways k.0 (Traps r.cause) x k.1 (fails_by causes k.0.end r.cause k.4 r.listed) (record { op = r.fits.op; each = of_slot k.0 r.cause k.2 k.3 r.fits.each; holds = refl })
  where
    of_slot : (way : FetchWay) (cause : Cause) → is_in way.first (x slots.FirstPte) ≡ true → is_in way.second (x slots.SecondPte) ≡ true → ((slot : Slot) → fault_domain t cause slot (x slot) ≡ true) → (slot : Slot)
        → entries_at (turn_of s) way (Traps cause) slot (x slot) ≡ true
    of_slot way cause a b each slots.FirstPte = a
    of_slot way cause a b each slots.SecondPte = b
    of_slot way cause a b each slots.Vector = vector_moves s t first second space stands cause (x slots.Vector) ∙ each slots.Vector
    of_slot way cause a b each slots.Op = each slots.Op
    of_slot way cause a b each slots.Rs1 = each slots.Rs1
    of_slot way cause a b each slots.Rs2 = each slots.Rs2
    of_slot way cause a b each slots.Imm = each slots.Imm
    of_slot way cause a b each slots.Rd = each slots.Rd
    of_slot way cause a b each slots.Csr = each slots.Csr
    of_slot way cause a b each slots.Ea = each slots.Ea
    of_slot way cause a b each slots.A = each slots.A
    of_slot way cause a b each slots.B = each slots.B
    of_slot way cause a b each slots.DataWord = each slots.DataWord
    of_slot way cause a b each slots.OldCsr = each slots.OldCsr

-- THE FIRST CASE
first_moves : (s : Stand) (t : Turn) (first second : List ℕ) (space : ℕ) → IsFetchStand s t first second space → (slot : Slot) → is_fetched_slot slot ≡ true → (v : ℕ) → v < 2 ^ 32 → fetch_first_at s first second slot v ≡ fetch_domain t slot v
first_moves s t first second space h slots.FirstPte n v small = h.firsts v small
first_moves s t first second space h slots.SecondPte n v small = h.seconds v small
first_moves s t first second space h slots.Vector n v small = ap (λ (l : List ℕ). is_in l v) (sym h.vectors)
first_moves s t first second space h slots.Op n v small = absurd (cc n)
first_moves s t first second space h _ n v small = absurd (cc n)

is_fetch_problem : (s : Stand) (t : Turn) (first second : List ℕ) (space : ℕ) (draws pivots : List ℕ) (c : ACase) (cs : List ACase) → IsFetchStand s t first second space → AreFetchPivots draws pivots → IsFetchFirstCase s first second c
    → IsFetchProblem t draws (record { cases = c ∷ cs; pivots = pivots; pairs = space; fetch = true })
is_fetch_problem s t first second space draws pivots c cs h d f = record {
  fetch = refl;
  pairs = sym h.pairs;
  pivots = d;
  first = subst (λ (o : Option ACase). IsFetchFirst t o) (sym (found_here (λ k. k.op == 0) c cs (eq-eqb c.op 0 f.number))) of_slot;
}
  where
    of_slot : (slot : Slot) → is_fetched_slot slot ≡ true → IsDomain (domain_of c slot) (fetch_domain t slot)
    of_slot slot n =
        let k = each_domain (λ r set. IsDomain set (fetch_first_at s first second r)) c.doms f.domains slot in
        let e : domain_of c slot ≡ slice_index_or c.doms (slot_number slot) [] = domain_in_case c slot in
        record {
          members = k.members;
          is_set = e ∙ k.is_set;
          same = λ v small. ap (λ (l : List ℕ). is_in l v) e ∙ k.same v small ∙ first_moves s t first second space h slot n v small;
        }

-- THE PROBLEMS
-- behind a first case, which nothing fits, come the cases of ways
all_fit : (c : ACase) (none one cs : List ACase) (ds : List Case) → ((x : Assignment) → fits_case x c ≡ true → ⊥) → none ≡ [] → one ≡ none ++ c ∷ [] → AddsCases one cs ds → FitsSame cs ds
all_fit c none one cs ds n e f h = h.fits [] (subst (λ (l : List ACase). FitsSame l []) (sym (f ∙ ap (λ (l : List ACase). l ++ c ∷ []) e)) (none_fits c n))

first_of_all : (c : ACase) (none one cs : List ACase) (ds : List Case) → none ≡ [] → one ≡ none ++ c ∷ [] → (h : AddsCases one cs ds) → cs ≡ c ∷ h.rest
first_of_all c none one cs ds e f h = h.behind ∙ ap (λ (l : List ACase). l ++ h.rest) (f ∙ ap (λ (l : List ACase). l ++ c ∷ []) e)

pub fetch_posed : (s : Stand) (first second : List ℕ) (space : ℕ) (ways : List FetchWay) (draws pivots : List ℕ) (c : ACase) (none one cs : List ACase) → none ≡ [] → one ≡ none ++ c ∷ [] → AreFetchPivots draws pivots → IsFetchFirstCase s first second c
    → AddsCases one cs (cases_by fetch_end (turn_of s) ways) → PosesFetch s first second space ways draws (record { cases = cs; pivots = pivots; pairs = space; fetch = true })
fetch_posed s first second space ways draws pivots c none one cs e f p k h t rows stands are rows_are =
    let fits : FitsSame cs (cases_by fetch_end (turn_of s) ways) = all_fit c none one cs (cases_by fetch_end (turn_of s) ways) (nothing_fits c k.rels) e f h in (
      subst (λ (l : List ACase). IsFetchProblem t draws (record { cases = l; pivots = pivots; pairs = space; fetch = true })) (sym (first_of_all c none one cs (cases_by fetch_end (turn_of s) ways) e f h))
          (is_fetch_problem s t first second space draws pivots c h.rest stands p k),
      record { same = λ x hx. (λ y. fetch_there s t ways rows are rows_are (values_in x) ((fits x hx).0 y), λ g. (fits x hx).1 (fetch_back s t ways rows are rows_are (values_in x) g)) },
    )

pub fault_posed : (s : Stand) (first second : List ℕ) (space : ℕ) (ways : List FetchWay) (draws causes pivots : List ℕ) (c : ACase) (none one cs : List ACase) → none ≡ [] → one ≡ none ++ c ∷ [] → AreFetchPivots draws pivots → IsFetchFirstCase s first second c
    → AddsCases one cs (cases_by (fault_end causes) (turn_of s) ways) → PosesFault s first second space ways draws causes (record { cases = cs; pivots = pivots; pairs = space; fetch = true })
fault_posed s first second space ways draws causes pivots c none one cs e f p k h t rows stands are rows_are =
    let fits : FitsSame cs (cases_by (fault_end causes) (turn_of s) ways) = all_fit c none one cs (cases_by (fault_end causes) (turn_of s) ways) (nothing_fits c k.rels) e f h in (
      subst (λ (l : List ACase). IsFetchProblem t draws (record { cases = l; pivots = pivots; pairs = space; fetch = true })) (sym (first_of_all c none one cs (cases_by (fault_end causes) (turn_of s) ways) e f h))
          (is_fetch_problem s t first second space draws pivots c h.rest stands p k),
      record { same = λ x hx. (λ y. fault_there s t first second space stands ways rows are rows_are causes (values_in x) ((fits x hx).0 y), λ g. (fits x hx).1 (fault_back s t first second space stands ways rows are rows_are causes (values_in x) g)) },
    )
