-- An Extra is its atoms, and the biases that a solver keeps are those that have a candidate.
use Rattle.std.proofs.Common.{◌≡◌, ◌≢◌, ℕ, ◌^◌, ◌<◌, ◌⊎◌, if◌then◌else◌, cond, ◌&&◌, ◌||◌, ◌==◌, Bool, true, false, List, [], ◌∷◌, ◌++◌, length, filter, find, Option, Some, None, refl, sym, ap, ◌∙◌, subst, inl, inr, arith, All}
use Rattle.std.specs.Prelude.{slice_index_or}
use Rattle.std.specs.List.{list_any, list_all}
use Rattle.std.proofs.lemmas.Bool.{and_parts, and_from, eqb-true, eq-eqb}
use Rattle.std.proofs.lemmas.List.{get_or-set_other}
use Rattle.std.proofs.lemmas.List.Elements.{All-head, All-tail}
use Rattle.std.proofs.lemmas.List.Folds.{list_all-append}
use Rattle.std.proofs.lemmas.Grind.{get_or-set_at}
use Rattle.std.proofs.lemmas.Map.Views.{any-filter_same}
use Rattle.dom_set.specs.Elements.{elements_of, is_in}
use Rattle.dom_set.proofs.Sets.{filter_is, is_in-elements}
use Rattle.rv_isa.specs.declared.operation.Op.{Op}
use Rattle.rv_isa.specs.declared.operation.TheConstants.{OPS}
use Rattle.rv_script.specs.Folds.{Answer, Entry}
use Rattle.rv_script.proofs.Items.{has_either}
use Rattle.sv_walk.specs.declared.entry.Kind.TheVariants.{Load as ForLoad, Store as ForStore}
use Rattle.addr_rows.specs.Walks.{EntryRow}
use Rattle.rv_hart.specs.declared.record.Change.{Change}
use Rattle.tpl_admit.specs.Variables.{Moment}
use Rattle.tpl_ast.specs.declared.template.Atom.{Atom}
use Rattle.tpl_ast.specs.declared.template.Var.TheVariants as vars
use Rattle.fd_prob.specs.declared.problem.Assignment.{Assignment}
use Rattle.fd_prob.specs.declared.problem.Case.{Case}
use Rattle.fd_prob.specs.declared.problem.Extra.{Extra}
use Rattle.fd_prob.specs.declared.problem.Problem.{Problem}
use Rattle.fd_prob.specs.declared.slot.Slot.{Slot}
use Rattle.fd_prob.specs.declared.slot.Slot.TheVariants as slots
use Rattle.fd_prob.specs.Extras.{closed_by, cut_by, cut_by_all, extended, extended_case, extended_cases}
use Rattle.fd_prob.specs.Fitting.{IsCase, IsProblem, domain_of, fits_case, is_within}
use Rattle.fd_prob.specs.Order.{IsAssignment}
use Rattle.fd_prob.specs.Relations.{holds, value_of}
use Rattle.rv_isa.specs.Numbers.{op_numbered, op_number}
use Rattle.fd_prob.specs.Slots.{slot_number}
use Rattle.fd_prob.proofs.Fitted.{all_within, each_within}
use Rattle.fd_prob.proofs.Places.{place_below}
use Rattle.case_search.proofs.Extensions.{length_cut, whole}
use Rattle.leaf_link.specs.Turns.{Turn}
use Rattle.leaf_link.specs.Values.{Values, instr_in}
use Rattle.leaf_link.specs.Candidates.{all_met, is_met, moment_of}
use Rattle.leaf_link.specs.Cases.{Fits, all_tests, code_at}
use Rattle.leaf_link.specs.KindLaws.{IsPosed}
use Rattle.leaf_link.specs.Answers.{values_in}
use Rattle.leaf_link.specs.Problems.{bias_cut}
use Rattle.leaf_link.specs.Reaching.{AreRows, HasPages}
use Rattle.leaf_link.specs.AllWays.{leaf_cases, ways_of}
use Rattle.leaf_link.specs.Firsts.{AreFirsts, IsFirst, IsFirstOf, first_domain, in_first_word, is_allowed}
use Rattle.leaf_link.specs.Extras.{AreAdded, ArePlain, ExtrasAreBiases, ExtrasStay, IsExtraOf, PassesExtra, met_by, met_in, passes_cuts}
use Rattle.leaf_link.proofs.Biases.{and_assoc, tests_more}
use Rattle.leaf_link.proofs.Links.{Good}
use Rattle.leaf_link.proofs.Both.{fits_good}
use Rattle.leaf_link.proofs.Back.{good_fits}
use Rattle.leaf_link.proofs.Spacing.{domain_is}
use Rattle.leaf_link.proofs.Whole.{of_one, one_of, every_op as op_listed}
use Rattle.leaf_link.proofs.Every.{every_op}

-- CUTS OF DOMAINS
apart_from : (a b : ℕ) → (a == b) ≡ false → b ≢ a
apart_from a b e h = let z : (a == b) ≡ true = eq-eqb a b (sym h) in absurd (cc)

cut_at : (cut : Slot × List ℕ) (doms : List (List ℕ)) (s : Slot) → length doms ≡ 14
    → slice_index_or (cut_by cut doms) (slot_number s) [] ≡ cond (slot_number cut.0 == slot_number s) (filter (is_in cut.1) (slice_index_or doms (slot_number s) [])) (slice_index_or doms (slot_number s) [])
cut_at cut doms s len = go (slot_number cut.0 == slot_number s) refl
  where
    go : (b : Bool) → (slot_number cut.0 == slot_number s) ≡ b → slice_index_or (cut_by cut doms) (slot_number s) [] ≡ cond b (filter (is_in cut.1) (slice_index_or doms (slot_number s) [])) (slice_index_or doms (slot_number s) [])
    go true e =
        let same : slot_number cut.0 ≡ slot_number s = eqb-true (slot_number cut.0) (slot_number s) e in
        let below : slot_number cut.0 < length doms = let b = place_below cut.0 in omega (arith, b, len) in
        get_or-set_at doms (slot_number cut.0) (slot_number s) (filter (is_in cut.1) (slice_index_or doms (slot_number cut.0) [])) [] (sym same) below
        ∙ ap (λ (n : ℕ). filter (is_in cut.1) (slice_index_or doms n [])) same
    go false e = get_or-set_other doms (slot_number cut.0) (slot_number s) (filter (is_in cut.1) (slice_index_or doms (slot_number cut.0) [])) [] (apart_from (slot_number cut.0) (slot_number s) e)

and_swap : (a b : Bool) → (a && b) ≡ (b && a)
and_swap true true = refl
and_swap true false = refl
and_swap false true = refl
and_swap false false = refl

and_true : (a : Bool) → a ≡ (a && true)
and_true true = refl
and_true false = refl

filtered : (test : ℕ → Bool) (xs : List ℕ) (v : ℕ) → is_in (filter test xs) v ≡ (is_in xs v && test v)
filtered test xs v = any-filter_same (λ y. y == v) test (test v) (λ k e. ap test (eqb-true k v e)) xs ∙ and_swap (test v) (is_in xs v)

cut_member : (cut : Slot × List ℕ) (doms : List (List ℕ)) (s : Slot) (v : ℕ) → length doms ≡ 14
    → is_in (slice_index_or (cut_by cut doms) (slot_number s) []) v ≡ (is_in (slice_index_or doms (slot_number s) []) v && (if slot_number cut.0 == slot_number s then is_in cut.1 v else true))
cut_member cut doms s v len = ap (λ (xs : List ℕ). is_in xs v) (cut_at cut doms s len) ∙ go (slot_number cut.0 == slot_number s)
  where
    go : (b : Bool) → is_in (cond b (filter (is_in cut.1) (slice_index_or doms (slot_number s) [])) (slice_index_or doms (slot_number s) [])) v ≡ (is_in (slice_index_or doms (slot_number s) []) v && (if b then is_in cut.1 v else true))
    go true = filtered (is_in cut.1) (slice_index_or doms (slot_number s) []) v
    go false = and_true (is_in (slice_index_or doms (slot_number s) []) v)

cuts_member : (cuts : List (Slot × List ℕ)) (doms : List (List ℕ)) (s : Slot) (v : ℕ) → length doms ≡ 14
    → is_in (slice_index_or (cut_by_all cuts doms) (slot_number s) []) v ≡ (is_in (slice_index_or doms (slot_number s) []) v && passes_cuts cuts s v)
cuts_member [] doms s v len = and_true (is_in (slice_index_or doms (slot_number s) []) v)
cuts_member (cut ∷ cuts) doms s v len =
    cuts_member cuts (cut_by cut doms) s v (length_cut cut doms ∙ len)
    ∙ ap (λ (b : Bool). b && passes_cuts cuts s v) (cut_member cut doms s v len)
    ∙ sym (and_assoc (is_in (slice_index_or doms (slot_number s) []) v) (if slot_number cut.0 == slot_number s then is_in cut.1 v else true) (passes_cuts cuts s v))

cut_elements : (cut : Slot × List ℕ) (doms : List (List ℕ)) (s : Slot) (m : ℕ → Bool) → length doms ≡ 14 → slice_index_or doms (slot_number s) [] ≡ elements_of m
    → slice_index_or (cut_by cut doms) (slot_number s) [] ≡ elements_of (λ v. m v && (if slot_number cut.0 == slot_number s then is_in cut.1 v else true))
cut_elements cut doms s m len is = cut_at cut doms s len ∙ go (slot_number cut.0 == slot_number s)
  where
    go : (b : Bool) → cond b (filter (is_in cut.1) (slice_index_or doms (slot_number s) [])) (slice_index_or doms (slot_number s) []) ≡ elements_of (λ v. m v && (if b then is_in cut.1 v else true))
    go true = ap (λ (xs : List ℕ). filter (is_in cut.1) xs) is ∙ sym (filter_is m (is_in cut.1) (λ v. m v && is_in cut.1 v) (λ v less. refl))
    go false = is ∙ Rattle.dom_set.proofs.Sets.elements_same m (λ v. m v && true) (λ v less. and_true (m v))

cuts_elements : (cuts : List (Slot × List ℕ)) (doms : List (List ℕ)) (s : Slot) (m : ℕ → Bool) → length doms ≡ 14 → slice_index_or doms (slot_number s) [] ≡ elements_of m
    → slice_index_or (cut_by_all cuts doms) (slot_number s) [] ≡ elements_of (λ v. m v && passes_cuts cuts s v)
cuts_elements [] doms s m len is = is ∙ Rattle.dom_set.proofs.Sets.elements_same m (λ v. m v && true) (λ v less. and_true (m v))
cuts_elements (cut ∷ cuts) doms s m len is =
    cuts_elements cuts (cut_by cut doms) s (λ v. m v && (if slot_number cut.0 == slot_number s then is_in cut.1 v else true)) (length_cut cut doms ∙ len) (cut_elements cut doms s m len is)
    ∙ Rattle.dom_set.proofs.Sets.elements_same _ (λ v. m v && passes_cuts (cut ∷ cuts) s v) (λ v less. sym (and_assoc (m v) (if slot_number cut.0 == slot_number s then is_in cut.1 v else true) (passes_cuts cuts s v)))

-- FITTING
closed_is : (stays : Bool) (op : Op) (x : Assignment) → list_all (holds op x) (closed_by stays) ≡ stays
closed_is true op x = refl
closed_is false op x = refl

rels_are : (e : Extra) (stays : Bool) (c : Case) (x : Assignment) → list_all (holds (op_numbered c.op) x) (extended_case e stays c).rels ≡ (list_all (holds (op_numbered c.op) x) c.rels && (list_all (holds (op_numbered c.op) x) e.rels && stays))
rels_are e stays c x =
    list_all-append (holds (op_numbered c.op) x) (c.rels ++ e.rels) (closed_by stays)
    ∙ ap (λ (b : Bool). b && list_all (holds (op_numbered c.op) x) (closed_by stays)) (list_all-append (holds (op_numbered c.op) x) c.rels e.rels)
    ∙ ap (λ (b : Bool). (list_all (holds (op_numbered c.op) x) c.rels && list_all (holds (op_numbered c.op) x) e.rels) && b) (closed_is stays (op_numbered c.op) x)
    ∙ sym (and_assoc (list_all (holds (op_numbered c.op) x) c.rels) (list_all (holds (op_numbered c.op) x) e.rels) stays)

dom_member : (e : Extra) (stays : Bool) (c : Case) (s : Slot) (v : ℕ) → IsCase c → is_in (domain_of (extended_case e stays c) s) v ≡ (is_in (domain_of c s) v && passes_cuts e.cuts s v)
unfolding domain_of
dom_member e stays c s v is = cuts_member e.cuts c.doms s v is.domains

pub fits_less : (e : Extra) (stays : Bool) (c : Case) (x : Assignment) → IsCase c → fits_case x (extended_case e stays c) ≡ true → (fits_case x c ≡ true) × PassesExtra e stays (op_numbered c.op) x
unfolding fits_case
fits_less e stays c x is h =
    let a = and_parts (c.op == value_of x slots.Op && is_within (extended_case e stays c) x) (list_all (holds (op_numbered c.op) x) (extended_case e stays c).rels) h in
    let b = and_parts (c.op == value_of x slots.Op) (is_within (extended_case e stays c) x) a.0 in
    let r = and_parts (list_all (holds (op_numbered c.op) x) c.rels) (list_all (holds (op_numbered c.op) x) e.rels && stays) (sym (rels_are e stays c x) ∙ a.1) in
    let r1 = and_parts (list_all (holds (op_numbered c.op) x) e.rels) stays r.1 in
    let w = λ (s : Slot). and_parts (is_in (domain_of c s) (value_of x s)) (passes_cuts e.cuts s (value_of x s)) (sym (dom_member e stays c s (value_of x s) is) ∙ each_within (extended_case e stays c) x b.1 s) in (
      and_from _ _ (and_from _ _ b.0 (all_within c x (λ s. (w s).0))) r.0,
      record { stays_is = r1.1; cuts = λ s. (w s).1; rels = r1.0 },
    )

pub fits_more : (e : Extra) (stays : Bool) (c : Case) (x : Assignment) → IsCase c → fits_case x c ≡ true → PassesExtra e stays (op_numbered c.op) x → fits_case x (extended_case e stays c) ≡ true
unfolding fits_case
fits_more e stays c x is h m =
    let a = and_parts (c.op == value_of x slots.Op && is_within c x) (list_all (holds (op_numbered c.op) x) c.rels) h in
    let b = and_parts (c.op == value_of x slots.Op) (is_within c x) a.0 in
    and_from _ _
    (and_from _ _ b.0 (all_within (extended_case e stays c) x (λ s. dom_member e stays c s (value_of x s) is ∙ and_from _ _ (each_within c x b.1 s) (m.cuts s))))
    (rels_are e stays c x ∙ and_from _ _ a.1 (and_from _ _ m.rels m.stays_is))

or_parts : (a b : Bool) → (a || b) ≡ true → (a ≡ true) ⊎ (b ≡ true)
or_parts true b h = inl refl
or_parts false b h = inr h

or_left : (a b : Bool) → a ≡ true → (a || b) ≡ true
or_left true b h = refl
or_left false b h = absurd (cc)

or_right : (a b : Bool) → b ≡ true → (a || b) ≡ true
or_right true b h = refl
or_right false b h = h

pub any_less : (t : Turn) (bias : List Atom) (e : Extra) (stays : List Bool) (cs : List Case) (x : Assignment) → IsAssignment x → All IsCase cs → AreAdded t bias e stays cs → list_any (fits_case x) (extended_cases e stays cs) ≡ true
    → (list_any (fits_case x) cs ≡ true) × (met_by t bias (values_in x) ≡ true)
any_less t bias e [] [] x words are added h = absurd (cc)
any_less t bias e (b ∷ bs) (c ∷ cs) x words are added h = elim (or_parts (fits_case x (extended_case e b c)) (list_any (fits_case x) (extended_cases e bs cs)) h) [
  | inl one ↦ let r = fits_less e b c x (All-head IsCase c cs are) one in (or_left (fits_case x c) (list_any (fits_case x) cs) r.0, (added.0 x words r.0).0 r.1)
  | inr more ↦ let r = any_less t bias e bs cs x words (All-tail IsCase c cs are) added.1 more in (or_right (fits_case x c) (list_any (fits_case x) cs) r.0, r.1)
]
any_less t bias e [] (c ∷ cs) x words are added h = absurd added
any_less t bias e (b ∷ bs) [] x words are added h = absurd added

any_more : (t : Turn) (bias : List Atom) (e : Extra) (stays : List Bool) (cs : List Case) (x : Assignment) → IsAssignment x → All IsCase cs → AreAdded t bias e stays cs → list_any (fits_case x) cs ≡ true → met_by t bias (values_in x) ≡ true
    → list_any (fits_case x) (extended_cases e stays cs) ≡ true
any_more t bias e [] [] x words are added h m = absurd (cc)
any_more t bias e (b ∷ bs) (c ∷ cs) x words are added h m = elim (or_parts (fits_case x c) (list_any (fits_case x) cs) h) [
  | inl one ↦ or_left (fits_case x (extended_case e b c)) (list_any (fits_case x) (extended_cases e bs cs)) (fits_more e b c x (All-head IsCase c cs are) one ((added.0 x words one).1 m))
  | inr more ↦ or_right (fits_case x (extended_case e b c)) (list_any (fits_case x) (extended_cases e bs cs)) (any_more t bias e bs cs x words (All-tail IsCase c cs are) added.1 more m)
]
any_more t bias e [] (c ∷ cs) x words are added h m = absurd added
any_more t bias e (b ∷ bs) [] x words are added h m = absurd added

-- THE LEAF WITH MORE ATOMS
met_more : (t : Turn) (m : Moment) (leaf bias : List Atom) → all_met t m (leaf ++ bias) ≡ (all_met t m leaf && all_met t m bias)
met_more t m [] bias = refl
met_more t m (atom ∷ leaf) bias = ap (λ (b : Bool). is_met t m atom && b) (met_more t m leaf bias) ∙ and_assoc (is_met t m atom) (all_met t m leaf) (all_met t m bias)

pub posed_more : (t : Turn) (walk : List Entry) (pa : ℕ) (leaf bias : List Atom) → IsPosed t walk pa leaf → ArePlain bias → IsPosed t walk pa (leaf ++ bias)
posed_more t walk pa leaf bias p plain = record {
  fetched = p.fetched;
  words = p.words;
  fixed = p.fixed;
  plain = λ atom i. elim (has_either leaf bias atom i) [ inl h ↦ p.plain atom h | inr h ↦ plain atom h ];
}

-- more atoms let fewer addresses be the virtual one
pub pages_more : (t : Turn) (leaf bias : List Atom) (pages : ℕ → Bool) → HasPages t leaf pages → HasPages t (leaf ++ bias) pages
pages_more t leaf bias pages h ea less tested = h ea less (and_parts (all_tests t leaf vars.Ea ea) (all_tests t bias vars.Ea ea) (sym (tests_more t leaf bias vars.Ea ea) ∙ tested)).0

pub leaf_good : (t : Turn) (walk : List Entry) (pa : ℕ) (leaf : List Atom) (pages : ℕ → Bool) (loads stores : List EntryRow) (x : Values) → IsPosed t walk pa leaf → HasPages t leaf pages → AreRows t pages ForLoad loads → AreRows t pages ForStore stores → Fits (leaf_cases t walk pa leaf loads stores) x → Good t leaf x
leaf_good t walk pa leaf pages loads stores x p h l s f =
    let ways = ways_of t walk pa leaf loads stores in
    let o = one_of t walk pa leaf ways OPS x f in
    (fits_good t walk pa leaf o.0 (ways o.0) p.fetched p.plain (every_op t walk pa leaf pages loads stores p.fetched h l s o.0) x o.1).0

pub good_leaf : (t : Turn) (walk : List Entry) (pa : ℕ) (leaf : List Atom) (pages : ℕ → Bool) (loads stores : List EntryRow) (x : Values) → IsPosed t walk pa leaf → HasPages t leaf pages → AreRows t pages ForLoad loads → AreRows t pages ForStore stores → Good t leaf x → Fits (leaf_cases t walk pa leaf loads stores) x
good_leaf t walk pa leaf pages loads stores x p h l s g =
    let op : Op = (instr_in x).op in
    of_one t walk pa leaf (ways_of t walk pa leaf loads stores) OPS x op (op_listed op) (good_fits t walk pa leaf op (ways_of t walk pa leaf loads stores op) p.fetched p.words p.plain (every_op t walk pa leaf pages loads stores p.fetched h l s op) x g refl)

good_met : (t : Turn) (leaf bias : List Atom) (x : Values) → (g : Good t leaf x) → met_by t bias x ≡ all_met t (moment_of t g.log g.change) bias
good_met t leaf bias x g = ap (λ (r : Answer Entry Change). met_in t bias r) g.plays

good_less : (t : Turn) (leaf bias : List Atom) (x : Values) → Good t (leaf ++ bias) x → Good t leaf x × (met_by t bias x ≡ true)
good_less t leaf bias x g =
    let a = and_parts (all_met t (moment_of t g.log g.change) leaf) (all_met t (moment_of t g.log g.change) bias) (sym (met_more t (moment_of t g.log g.change) leaf bias) ∙ g.meets.atoms) in (
      record {
        log = g.log;
        change = g.change;
        plays = g.plays;
        agree = g.agree;
        meets = record { fetched = g.meets.fetched; may = g.meets.may; once = g.meets.once; free = g.meets.free; apart = g.meets.apart; atoms = a.0 };
        is = g.is;
      },
      good_met t (leaf ++ bias) bias x g ∙ a.1,
    )

good_more : (t : Turn) (leaf bias : List Atom) (x : Values) → Good t leaf x → met_by t bias x ≡ true → Good t (leaf ++ bias) x
good_more t leaf bias x g m = record {
  log = g.log;
  change = g.change;
  plays = g.plays;
  agree = g.agree;
  meets = record {
    fetched = g.meets.fetched;
    may = g.meets.may;
    once = g.meets.once;
    free = g.meets.free;
    apart = g.meets.apart;
    atoms = met_more t (moment_of t g.log g.change) leaf bias ∙ and_from _ _ g.meets.atoms (sym (good_met t leaf bias x g) ∙ m);
  };
  is = g.is;
}

-- FIRST CASES WITH AN EXTRA
first_more : (t : Turn) (pa : ℕ) (leaf bias : List Atom) (op : Op) (s : Slot) (v : ℕ) → first_domain t pa (leaf ++ bias) op s v ≡ (first_domain t pa leaf op s v && bias_cut t bias s v)
first_more t pa leaf bias op slots.Op v = ap (λ (b : Bool). in_first_word (code_at t pa) op slots.Op v && b) (tests_more t leaf bias vars.Op v) ∙ and_assoc _ (all_tests t leaf vars.Op v) (all_tests t bias vars.Op v)
first_more t pa leaf bias op slots.Rs1 v = ap (λ (b : Bool). in_first_word (code_at t pa) op slots.Rs1 v && b) (tests_more t leaf bias vars.Rs1 v) ∙ and_assoc _ (all_tests t leaf vars.Rs1 v) (all_tests t bias vars.Rs1 v)
first_more t pa leaf bias op slots.Rs2 v = ap (λ (b : Bool). in_first_word (code_at t pa) op slots.Rs2 v && b) (tests_more t leaf bias vars.Rs2 v) ∙ and_assoc _ (all_tests t leaf vars.Rs2 v) (all_tests t bias vars.Rs2 v)
first_more t pa leaf bias op slots.Imm v = ap (λ (b : Bool). in_first_word (code_at t pa) op slots.Imm v && b) (tests_more t leaf bias vars.Imm v) ∙ and_assoc _ (all_tests t leaf vars.Imm v) (all_tests t bias vars.Imm v)
first_more t pa leaf bias op slots.Rd v = ap (λ (b : Bool). in_first_word (code_at t pa) op slots.Rd v && b) (tests_more t leaf bias vars.Rd v) ∙ and_assoc _ (all_tests t leaf vars.Rd v) (all_tests t bias vars.Rd v)
first_more t pa leaf bias op slots.Csr v = ap (λ (b : Bool). in_first_word (code_at t pa) op slots.Csr v && b) (tests_more t leaf bias vars.Csr v) ∙ and_assoc _ (all_tests t leaf vars.Csr v) (all_tests t bias vars.Csr v)
first_more t pa leaf bias op slots.Ea v = ap (λ (b : Bool). Rattle.leaf_link.specs.Cases.or_no (Rattle.rv_isa.specs.Fields.has_address (Rattle.rv_isa.specs.Table.row_of op)) true v && b) (tests_more t leaf bias vars.Ea v) ∙ and_assoc _ (all_tests t leaf vars.Ea v) (all_tests t bias vars.Ea v)
first_more t pa leaf bias op slots.A v = ap (λ (b : Bool). Rattle.leaf_link.specs.Cases.or_no (Rattle.rv_isa.specs.Fields.reads_rs1 (Rattle.rv_isa.specs.Table.row_of op)) true v && b) (tests_more t leaf bias vars.A v) ∙ and_assoc _ (all_tests t leaf vars.A v) (all_tests t bias vars.A v)
first_more t pa leaf bias op slots.B v = ap (λ (b : Bool). Rattle.leaf_link.specs.Cases.or_no (Rattle.rv_isa.specs.Fields.reads_rs2 (Rattle.rv_isa.specs.Table.row_of op)) true v && b) (tests_more t leaf bias vars.B v) ∙ and_assoc _ (all_tests t leaf vars.B v) (all_tests t bias vars.B v)
first_more t pa leaf bias op slots.FirstPte v = and_true _
first_more t pa leaf bias op slots.SecondPte v = and_true _
first_more t pa leaf bias op slots.DataWord v = and_true _
first_more t pa leaf bias op slots.OldCsr v = and_true _
first_more t pa leaf bias op slots.Vector v = and_true _

-- what is found among the extended cases
same_found : (t : Turn) (bias : List Atom) (e : Extra) (n : ℕ) (stays : List Bool) (cs : List Case) → AreAdded t bias e stays cs → All IsCase cs
    → ((find (λ c. c.op == n) cs ≡ None) × (find (λ c. c.op == n) (extended_cases e stays cs) ≡ None))
    ⊎ ((b : Bool) × (c : Case) × (find (λ c. c.op == n) cs ≡ Some c) × (find (λ c. c.op == n) (extended_cases e stays cs) ≡ Some (extended_case e b c)) × IsCase c)
same_found t bias e n [] [] added are = inl (refl, refl)
same_found t bias e n (b ∷ bs) (c ∷ cs) added are = go (c.op == n) refl (same_found t bias e n bs cs added.1 (All-tail IsCase c cs are))
  where
    go : (h : Bool) → (c.op == n) ≡ h
        → ((find (λ c. c.op == n) cs ≡ None) × (find (λ c. c.op == n) (extended_cases e bs cs) ≡ None)) ⊎ ((b : Bool) × (c : Case) × (find (λ c. c.op == n) cs ≡ Some c) × (find (λ c. c.op == n) (extended_cases e bs cs) ≡ Some (extended_case e b c)) × IsCase c)
        → ((find (λ c. c.op == n) (c ∷ cs) ≡ None) × (find (λ c. c.op == n) (extended_cases e (b ∷ bs) (c ∷ cs)) ≡ None))
        ⊎ ((d : Bool) × (c' : Case) × (find (λ c. c.op == n) (c ∷ cs) ≡ Some c') × (find (λ c. c.op == n) (extended_cases e (b ∷ bs) (c ∷ cs)) ≡ Some (extended_case e d c')) × IsCase c')
    go true h more = inr (b, c, ap (λ (z : Bool). cond z (Some c) (find (λ c. c.op == n) cs)) h, ap (λ (z : Bool). cond z (Some (extended_case e b c)) (find (λ c. c.op == n) (extended_cases e bs cs))) h, All-head IsCase c cs are)
    go false h more = elim more [
      | inl r ↦ inl (ap (λ (z : Bool). cond z (Some c) (find (λ c. c.op == n) cs)) h ∙ r.0, ap (λ (z : Bool). cond z (Some (extended_case e b c)) (find (λ c. c.op == n) (extended_cases e bs cs))) h ∙ r.1)
      | inr r ↦ inr (r.0, r.1, ap (λ (z : Bool). cond z (Some c) (find (λ c. c.op == n) cs)) h ∙ r.2, ap (λ (z : Bool). cond z (Some (extended_case e b c)) (find (λ c. c.op == n) (extended_cases e bs cs))) h ∙ r.3, r.4)
    ]
same_found t bias e n [] (c ∷ cs) added are = absurd added
same_found t bias e n (b ∷ bs) [] added are = absurd added

first_extended : (t : Turn) (pa : ℕ) (leaf bias : List Atom) (e : Extra) (stays : Bool) (op : Op) (c : Case) → IsCase c → op_number op < 2 ^ 32 → ((s : Slot) (v : ℕ) → v < 2 ^ 32 → passes_cuts e.cuts s v ≡ bias_cut t bias s v) → IsFirst t pa leaf op c → IsFirst t pa (leaf ++ bias) op (extended_case e stays c)
unfolding domain_of
first_extended t pa leaf bias e stays op c is small cuts f = record {
  allowed =
      dom_member e stays c slots.Op (op_number op) is
      ∙ ap (λ (b : Bool). b && passes_cuts e.cuts slots.Op (op_number op)) f.allowed
      ∙ ap (λ (b : Bool). is_allowed t pa leaf op && b) (cuts slots.Op (op_number op) small)
      ∙ sym (first_more t pa leaf bias op slots.Op (op_number op));
  domains = λ allowed s pos.
      let before = and_parts (is_allowed t pa leaf op) (bias_cut t bias slots.Op (op_number op)) (sym (first_more t pa leaf bias op slots.Op (op_number op)) ∙ allowed) in
      let old : domain_of c s ≡ elements_of (first_domain t pa leaf op s) = domain_is (domain_of c s) (first_domain t pa leaf op s) (f.domains before.0 s pos) in
      let new = cuts_elements e.cuts c.doms s (first_domain t pa leaf op s) is.domains old in
      record {
        members = λ v. first_domain t pa leaf op s v && passes_cuts e.cuts s v;
        is_set = new;
        same = λ v less.
            ap (λ (xs : List ℕ). is_in xs v) new ∙ is_in-elements (λ v. first_domain t pa leaf op s v && passes_cuts e.cuts s v) v less
            ∙ ap (λ (b : Bool). first_domain t pa leaf op s v && b) (cuts s v less) ∙ sym (first_more t pa leaf bias op s v);
      };
}

firsts_extended : (t : Turn) (pa : ℕ) (leaf bias : List Atom) (e : Extra) (p : Problem) → IsProblem p → IsExtraOf t bias e p → AreFirsts t pa leaf p → AreFirsts t pa (leaf ++ bias) (extended e p)
firsts_extended t pa leaf bias e p shape is firsts op = elim (same_found t bias e (op_number op) e.cases p.cases is.added shape) [
  | inl r ↦
      let lacks : is_allowed t pa leaf op ≡ false = subst (λ (o : Option Case). IsFirstOf t pa leaf op o) r.0 (firsts op) in
      let still : is_allowed t pa (leaf ++ bias) op ≡ false = first_more t pa leaf bias op slots.Op (op_number op) ∙ ap (λ (b : Bool). b && bias_cut t bias slots.Op (op_number op)) lacks in
      subst (λ (o : Option Case). IsFirstOf t pa (leaf ++ bias) op o) (sym r.1) still
  | inr r ↦
      let has : IsFirst t pa leaf op r.1 = subst (λ (o : Option Case). IsFirstOf t pa leaf op o) r.2 (firsts op) in
      let small : op_number op < 2 ^ 32 = let b = Rattle.leaf_link.proofs.Whole.below_58 op in omega (arith, b) in
      subst (λ (o : Option Case). IsFirstOf t pa (leaf ++ bias) op o) (sym r.3) (first_extended t pa leaf bias e r.0 op r.1 r.4 small is.cuts has)
]

-- LAWS
pub extras_are_biases : ExtrasAreBiases
extras_are_biases t walk pa leaf bias pages loads stores draws p e posed plain h l s is extra =
    let wide : HasPages t (leaf ++ bias) pages = pages_more t leaf bias pages h in
    let more : IsPosed t walk pa (leaf ++ bias) = posed_more t walk pa leaf bias posed plain in
    record {
      shape = whole e p is.shape;
      no_fetch = is.no_fetch;
      pairs = is.pairs;
      draws_are = is.draws_are;
      firsts = firsts_extended t pa leaf bias e p is.shape extra is.firsts;
      cases = record {
        same = λ x words. (
          λ f.
              let r = any_less t bias e e.cases p.cases x words is.shape extra.added f in
              good_leaf t walk pa (leaf ++ bias) pages loads stores (values_in x) more wide l s (good_more t leaf bias (values_in x) (leaf_good t walk pa leaf pages loads stores (values_in x) posed h l s ((is.cases.same x words).0 r.0)) r.1),
          λ f.
              let g = good_less t leaf bias (values_in x) (leaf_good t walk pa (leaf ++ bias) pages loads stores (values_in x) more wide l s f) in
              any_more t bias e e.cases p.cases x words is.shape extra.added ((is.cases.same x words).1 (good_leaf t walk pa leaf pages loads stores (values_in x) posed h l s g.0)) g.1,
        );
      };
    }

stay_added : (t : Turn) (bias other : List Atom) (e d : Extra) (bs ds : List Bool) (cs : List Case) → All IsCase cs → AreAdded t bias e bs cs → AreAdded t other d ds cs → AreAdded t other d ds (extended_cases e bs cs)
stay_added t bias other e d [] [] [] are a b = tt
stay_added t bias other e d (x ∷ bs) (y ∷ ds) (c ∷ cs) are a b =
    (λ z words f. b.0 z words (fits_less e x c z (All-head IsCase c cs are) f).0, stay_added t bias other e d bs ds cs (All-tail IsCase c cs are) a.1 b.1)
stay_added t bias other e d [] (y ∷ ds) [] are a b = absurd b
stay_added t bias other e d [] ds (c ∷ cs) are a b = absurd a
stay_added t bias other e d (x ∷ bs) ds [] are a b = absurd a
stay_added t bias other e d (x ∷ bs) [] (c ∷ cs) are a b = absurd b

pub extras_stay : ExtrasStay
extras_stay t bias other e d p shape a b = record { added = stay_added t bias other e d e.cases d.cases p.cases shape a.added b.added; cuts = b.cuts }
