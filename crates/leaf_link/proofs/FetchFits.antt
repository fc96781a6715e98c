-- The fetch problem from its rows.
use Rattle.std.proofs.Common.{◌≡◌, ℕ, ◌||◌, true, eqb, List, [], ◌∷◌, Option, Some, None, refl, sym, ap, ◌∙◌, subst, inl, inr}
use Rattle.std.specs.Prelude.{not}
use Rattle.std.specs.List.{list_all}
use Rattle.std.proofs.Math.Path.{fun_ext}
use Rattle.std.proofs.lemmas.Bool.{and_parts, and_from, eqb-true}
use Rattle.rv_script.specs.declared.place.Place.TheVariants.{Word}
use Rattle.rv_script.specs.Bytes.{word_address}
use Rattle.rv_script.specs.Lists.{HasItem}
use Rattle.rv_script.specs.Folds.{Answer, Entry}
use Rattle.sv_walk.specs.Translation.{Reached, At, Fails}
use Rattle.fd_prob.specs.declared.slot.Slot.{Slot}
use Rattle.fd_prob.specs.declared.slot.Slot.TheVariants as slots
use Rattle.rv_script.specs.Logs.{entry_place, answer_told, by_answers, enlarged, log_of, started}
use Rattle.leaf_link.specs.Turns.{Turn, is_free_entry}
use Rattle.leaf_link.specs.Values.{Values, given_by}
use Rattle.leaf_link.specs.Cases.{Fits, FitsCase, is_some_word}
use Rattle.leaf_link.specs.Fetches.{FetchDoes, fetch_script, fetch_values}
use Rattle.leaf_link.specs.FetchRows.{AreFetchRows, FetchProblemsAreExact, FetchRow, FetchWalks, entry_domain, entry_values, fetch_case, fetch_case_to, fetch_cases, fetch_keeps, fetch_log, is_fresh}
use Rattle.leaf_link.proofs.Front.{all_hold, hold_all}
use Rattle.leaf_link.proofs.Both.{each_slot}
use Rattle.leaf_link.proofs.Fetching.{fetches_are_exact}

fresh_of : (o p : Option ℕ) → (is_some_word o || not (is_some_word p)) ≡ true → o ≡ None → p ≡ None
fresh_of None None h n = refl
fresh_of None (Some v) h n = absurd (cc)
fresh_of (Some w) p h n = absurd (cc)

of_fresh : (o p : Option ℕ) → (o ≡ None → p ≡ None) → (is_some_word o || not (is_some_word p)) ≡ true
of_fresh (Some w) p h = refl
of_fresh None p h = ap (λ (q : Option ℕ). not (is_some_word q)) (h refl)

does_from : (t : Turn) (first second : ℕ) (log : List Entry) (pa : ℕ) → FetchWalks t first second log (At pa) → fetch_keeps t log pa ≡ true → FetchDoes t (entry_values first second)
does_from t first second log pa w h =
    let a = and_parts (list_all (is_free_entry t) log) (is_fresh t log pa) h in
    record {
      log = log;
      pa = pa;
      plays = w.plays;
      agree = λ e f i j n q. (w.coherent e f i j n q).1;
      meets = record {
        may = w.may;
        once = λ e f i j n q k. (w.coherent e f i j n q).0 k;
        free = all_hold (is_free_entry t) log a.0;
        fresh = λ e i n.
            fresh_of (t.known (entry_place e)) (enlarged t.known (started t.known log) (Word (word_address pa)))
            (all_hold (λ e. is_some_word (t.known (entry_place e)) || not (is_some_word (enlarged t.known (started t.known log) (Word (word_address pa))))) log a.1 e i) n;
      };
      is = each_slot (λ s. entry_values first second s ≡ fetch_values t log s) (record {
        op_slot = refl;
        rs1_slot = refl;
        rs2_slot = refl;
        imm_slot = refl;
        rd_slot = refl;
        csr_slot = refl;
        ea_slot = refl;
        a_slot = refl;
        b_slot = refl;
        first_slot = w.first_is;
        second_slot = w.second_is;
        data_slot = refl;
        old_slot = refl;
        vector_slot = refl;
      });
    }

-- values that are 0 but for the entries
only_entries : (x : Values) → ((s : Slot) → entry_domain s (x s) ≡ true) → entry_values (x slots.FirstPte) (x slots.SecondPte) ≡ x
only_entries x h = fun_ext (each_slot (λ s. entry_values (x slots.FirstPte) (x slots.SecondPte) s ≡ x s) (record {
  op_slot = sym (eqb-true (x slots.Op) 0 (h slots.Op));
  rs1_slot = sym (eqb-true (x slots.Rs1) 0 (h slots.Rs1));
  rs2_slot = sym (eqb-true (x slots.Rs2) 0 (h slots.Rs2));
  imm_slot = sym (eqb-true (x slots.Imm) 0 (h slots.Imm));
  rd_slot = sym (eqb-true (x slots.Rd) 0 (h slots.Rd));
  csr_slot = sym (eqb-true (x slots.Csr) 0 (h slots.Csr));
  ea_slot = sym (eqb-true (x slots.Ea) 0 (h slots.Ea));
  a_slot = sym (eqb-true (x slots.A) 0 (h slots.A));
  b_slot = sym (eqb-true (x slots.B) 0 (h slots.B));
  first_slot = refl;
  second_slot = refl;
  data_slot = sym (eqb-true (x slots.DataWord) 0 (h slots.DataWord));
  old_slot = sym (eqb-true (x slots.OldCsr) 0 (h slots.OldCsr));
  vector_slot = sym (eqb-true (x slots.Vector) 0 (h slots.Vector));
}))

-- FROM WHAT FITS
fitting_row : (t : Turn) (rows : List FetchRow) (x : Values) → Fits (fetch_cases t rows) x → (row : FetchRow) × (pa : ℕ) × HasItem rows row × (row.end ≡ At pa) × FitsCase (fetch_case t row pa) x
fitting_row t [] x f = absurd f
fitting_row t (row ∷ rows) x f = go row.end refl f (fitting_row t rows x)
  where
    go : (end : Reached) → row.end ≡ end → Fits (fetch_case_to t row end (fetch_cases t rows)) x → (Fits (fetch_cases t rows) x → (r : FetchRow) × (pa : ℕ) × HasItem rows r × (r.end ≡ At pa) × FitsCase (fetch_case t r pa) x)
        → (r : FetchRow) × (pa : ℕ) × HasItem (row ∷ rows) r × (r.end ≡ At pa) × FitsCase (fetch_case t r pa) x
    go (At pa) e f more = elim f [
      | inl h ↦ (row, pa, inl refl, e, h)
      | inr h ↦ let r = more h in (r.0, r.1, inr r.2, r.3, r.4)
    ]
    go (Fails cause) e f more = let r = more f in (r.0, r.1, inr r.2, r.3, r.4)

fits_does : (t : Turn) (rows : List FetchRow) → AreFetchRows t rows → (x : Values) → Fits (fetch_cases t rows) x → FetchDoes t x
fits_does t rows are x f =
    let r = fitting_row t rows x f in
    let c = r.4 in
    let first : ℕ = x slots.FirstPte in
    let second : ℕ = x slots.SecondPte in
    let same : entry_values first second ≡ x = only_entries x c.each in
    let h = and_parts (r.0.holds first second) (fetch_keeps t (fetch_log t x) r.1) c.holds in
    let w = are.sound r.0 r.2 first second h.0 in
    let walks : FetchWalks t first second w.0 (At r.1) = subst (λ (end : Reached). FetchWalks t first second w.0 end) r.3 w.1 in
    let log : fetch_log t x ≡ w.0 = ap (λ (z : Values). fetch_log t z) (sym same) ∙ ap (λ (a : Answer Entry Reached). log_of a) walks.plays in
    let keeps : fetch_keeps t w.0 r.1 ≡ true = ap (λ (l : List Entry). fetch_keeps t l r.1) (sym log) ∙ h.1 in
    subst (λ (z : Values). FetchDoes t z) same (does_from t first second w.0 r.1 walks keeps)

-- TO WHAT FITS
row_fits : (t : Turn) (rows : List FetchRow) (x : Values) (row : FetchRow) (pa : ℕ) → HasItem rows row → row.end ≡ At pa → FitsCase (fetch_case t row pa) x → Fits (fetch_cases t rows) x
row_fits t [] x row pa i e f = absurd i
row_fits t (r ∷ rows) x row pa i e f = elim i [
  | inl q ↦ subst (λ (end : Reached). Fits (fetch_case_to t r end (fetch_cases t rows)) x) (sym (ap (λ (z : FetchRow). z.end) q ∙ e)) (inl (subst (λ (z : FetchRow). FitsCase (fetch_case t z pa) x) (sym q) f))
  | inr j ↦ later r.end (row_fits t rows x row pa j e f)
]
  where
    later : (end : Reached) → Fits (fetch_cases t rows) x → Fits (fetch_case_to t r end (fetch_cases t rows)) x
    later (At p) h = inr h
    later (Fails cause) h = h

does_fits : (t : Turn) (rows : List FetchRow) → AreFetchRows t rows → (x : Values) → FetchDoes t x → Fits (fetch_cases t rows) x
does_fits t rows are x g =
    let first : ℕ = x slots.FirstPte in
    let second : ℕ = x slots.SecondPte in
    let zero_at : (s : Slot) → entry_domain s (x s) ≡ true = each_slot (λ s. entry_domain s (x s) ≡ true) (record {
      op_slot = zero (x slots.Op) (g.is slots.Op);
      rs1_slot = zero (x slots.Rs1) (g.is slots.Rs1);
      rs2_slot = zero (x slots.Rs2) (g.is slots.Rs2);
      imm_slot = zero (x slots.Imm) (g.is slots.Imm);
      rd_slot = zero (x slots.Rd) (g.is slots.Rd);
      csr_slot = zero (x slots.Csr) (g.is slots.Csr);
      ea_slot = zero (x slots.Ea) (g.is slots.Ea);
      a_slot = zero (x slots.A) (g.is slots.A);
      b_slot = zero (x slots.B) (g.is slots.B);
      first_slot = refl;
      second_slot = refl;
      data_slot = zero (x slots.DataWord) (g.is slots.DataWord);
      old_slot = zero (x slots.OldCsr) (g.is slots.OldCsr);
      vector_slot = zero (x slots.Vector) (g.is slots.Vector);
    }) in
    let same : entry_values first second ≡ x = only_entries x zero_at in
    let walks : FetchWalks t first second g.log (At g.pa) = record {
      plays = ap (λ (z : Values). answer_told (by_answers t.known (given_by z)) (fetch_script t)) same ∙ g.plays;
      may = g.meets.may;
      coherent = λ e f i j n q. (λ k. g.meets.once e f i j n q k, g.agree e f i j n q);
      first_is = g.is slots.FirstPte;
      second_is = g.is slots.SecondPte;
    } in
    let r = are.complete first second g.log (At g.pa) walks in
    let log : fetch_log t x ≡ g.log = ap (λ (a : Answer Entry Reached). log_of a) g.plays in
    let keeps : fetch_keeps t g.log g.pa ≡ true = and_from _ _ (hold_all (is_free_entry t) g.log g.meets.free)
    (hold_all (λ e. is_some_word (t.known (entry_place e)) || not (is_some_word (enlarged t.known (started t.known g.log) (Word (word_address g.pa))))) g.log
    (λ e i. of_fresh (t.known (entry_place e)) (enlarged t.known (started t.known g.log) (Word (word_address g.pa))) (g.meets.fresh e i))) in
    row_fits t rows x r.0 g.pa r.1 r.3 (record { op = g.is slots.Op; each = zero_at; holds = and_from _ _ r.2 (ap (λ (l : List Entry). fetch_keeps t l g.pa) log ∙ keeps) })
  where
    zero : (n : ℕ) → n ≡ 0 → eqb n 0 ≡ true
    zero n e = ap (λ (m : ℕ). eqb m 0) e

pub fetch_problems_are_exact : FetchProblemsAreExact
fetch_problems_are_exact t rows are =
    let law = fetches_are_exact t in
    record {
      into = λ x f. law.into x (fits_does t rows are x f);
      apart = λ x y f g. law.apart x y (fits_does t rows are x f) (fits_does t rows are y g);
      are_values = λ x f. law.are_values x (fits_does t rows are x f);
      onto = λ new w. let o = law.onto new w in (o.0, does_fits t rows are o.0 o.1, o.2, o.3);
    }
