-- The certificate of a test in which a search is done fits a file.
use Rattle.std.proofs.Common.{◌≡◌, ℕ, zero, suc, ◌+◌, ◌*◌, ◌<◌, ◌≤◌, ◌^◌, true, List, [], ◌∷◌, ◌++◌, append-nil, length, Option, Some, None, refl, sym, ap, ◌∙◌, subst, inl, inr, arith}
use Rattle.std.specs.Prelude.{replicate, slice_index_or}
use Rattle.std.specs.List.{AllByRecursion}
use Rattle.std.proofs.lemmas.Bool.{cases_lt}
use Rattle.std.proofs.lemmas.List.{length-map, length-replicate}
use Rattle.dom_set.specs.Elements.{is_in}
use Rattle.rv_hart.specs.declared.record.Record.{Record}
use Rattle.rv_hart.specs.Fixed.{Fixed}
use Rattle.tpl_ast.specs.declared.template.HartDecl.{HartDecl}
use Rattle.tpl_ast.specs.declared.template.Item.{Item}
use Rattle.tpl_ast.specs.declared.template.Template.{Template}
use Rattle.tpl_ast.specs.Expansion.{Piece, expansion_of_item}
use Rattle.tpl_ast.specs.Limits.{file_limits}
use Rattle.tpl_ast.specs.Naming.{count_in_head}
use Rattle.tpl_ast.specs.States.{IsState}
use Rattle.tpl_ast.specs.Templates.{KeepsLimits}
use Rattle.tpl_admit.specs.declared.certificate.Cert.{Cert}
use Rattle.tpl_admit.specs.declared.dropped.Dropped.{Dropped}
use Rattle.tpl_admit.specs.WellFormed.{AreDroppedBy, AreNamed}
use Rattle.part_machine.specs.Whole.{Bare, Whole, no_hart, records_of}
use Rattle.part_state.specs.Beginning.{IsBegun, numbered, start_in}
use Rattle.part_state.specs.Meaning.{held_in, partial_of}
use Rattle.part_state.specs.State.{whole}
use Rattle.part_state.specs.Told.{FitsFile, Tells}
use Rattle.part_told.specs.Finishing.{told_state}
use Rattle.gen_search.specs.Search.{all_items, of_hart}
use Rattle.gen_turn.specs.Rules.{Shown}
use Rattle.gen_turn.proofs.FileFits.{AreRecords, AreUp, IsFit, fit_made, names_listed, sum_is, total}
use Rattle.gen_turn.proofs.Laying.{LaidOut, Tagged, followed, laid_out, tagged}
use Rattle.gen_turn.proofs.Listing.{AreDroppedTo, are_dropped, place_of_step}
use Rattle.gen_turn.proofs.NamesAhead.{harts_ahead}
use Rattle.gen_turn.proofs.Paths.{IsPath, sets_of}
use Rattle.gen_turn.proofs.Shortness.{harts_within, records_of_pieces}
use Rattle.gen_turn.proofs.WordCounts.{few_words}

-- ---- pieces of harts in turn

up_less : (k j : ℕ) (ps : List Tagged) → k ≤ j → AreUp j ps → AreUp k ps
up_less k j [] le up = tt
up_less k j (p ∷ ps) le up = ((let h = up.0 in omega (arith, le, h)), up.1)

up_tagged : (k j : ℕ) (ps : List Piece) (rest : List Tagged) → k ≤ j → AreUp j rest → AreUp k (tagged j ps ++ rest)
up_tagged k j [] rest le up = up_less k j rest le up
up_tagged k j (p ∷ ps) rest le up = (le, up_tagged j j ps rest (omega arith) up)

abbrev AreItemsUp : ℕ → List (ℕ × Item) → Type 0
AreItemsUp k [] = Unit {0}
AreItemsUp k (x ∷ xs) = (k ≤ x.0) × AreItemsUp x.0 xs

laid_up : (k : ℕ) (todo : List (ℕ × Item)) → AreItemsUp k todo → (cs : List ℕ) → AreUp k (laid_out todo cs).pieces
laid_up k [] up cs = tt
laid_up k (x ∷ todo) up cs = go (expansion_of_item x.1 cs).pieces (expansion_of_item x.1 cs).left (laid_up x.0 todo up.1)
  where
    go : (ps : List Piece) (o : Option (List ℕ)) → ((ds : List ℕ) → AreUp x.0 (laid_out todo ds).pieces) → AreUp k (followed (record { pieces = tagged x.0 ps; left = o }) (laid_out todo)).pieces
    go ps None rest = subst (AreUp k) (append-nil (tagged x.0 ps)) (up_tagged k x.0 ps [] up.0 tt)
    go ps (Some ds) rest = up_tagged k x.0 ps (laid_out todo ds).pieces up.0 (rest ds)

items_less : (k j : ℕ) (xs : List (ℕ × Item)) → k ≤ j → AreItemsUp j xs → AreItemsUp k xs
items_less k j [] le up = tt
items_less k j (x ∷ xs) le up = ((let h = up.0 in omega (arith, le, h)), up.1)

body_up : (k : ℕ) (items : List Item) (rest : List (ℕ × Item)) → AreItemsUp k rest → AreItemsUp k (of_hart k items ++ rest)
body_up k [] rest up = up
body_up k (i ∷ items) rest up = (omega arith, body_up k items rest up)

harts_up : (k : ℕ) (hs : List HartDecl) → AreItemsUp k (all_items k hs)
harts_up k [] = tt
harts_up k (h ∷ hs) = body_up k h.body.items (all_items (k + 1) hs) (items_less k (k + 1) (all_items (k + 1) hs) (omega arith) (harts_up (k + 1) hs))

-- ---- the beginning

none_at : {A : Type 0} (n i : ℕ) (d : A) → slice_index_or (replicate n d) i d ≡ d
none_at zero i d = refl
none_at (suc n) zero d = refl
none_at (suc n) (suc i) d = none_at n i d

no_records : (n : ℕ) → AreRecords (replicate n [])
no_records zero = tt
no_records (suc n) = (tt, no_records n)

no_total : (n : ℕ) → total (replicate n []) ≡ 0
no_total zero = refl
no_total (suc n) = let h = no_total n in omega (arith, h)

many_numbered : (es : List (ℕ × ℕ)) → length (numbered es) ≡ length es
many_numbered [] = refl
many_numbered (e ∷ es) = ap suc (many_numbered es)

state_small : (hs : List HartDecl) (k : ℕ) → k < length hs → AllByRecursion (λ (h : HartDecl). IsState h.start) hs → (start_in hs k).pc < 2 ^ 32
state_small [] k lt all = absurd (omega (arith, lt))
state_small (h ∷ hs) zero lt all = all.0.pc
state_small (h ∷ hs) (suc k) lt all = state_small hs k (omega (arith, lt)) all.1

past_hart : (bs : List Bare) (j : ℕ) → length bs ≤ j → slice_index_or bs j no_hart ≡ no_hart
past_hart [] j le = refl
past_hart (b ∷ bs) zero le = absurd (omega (arith, le))
past_hart (b ∷ bs) (suc j) le = past_hart bs j (omega (arith, le))

module _ (t : Template) (nodes : ℕ) (keeps : KeepsLimits t.text t) (first last : Shown) (is : IsBegun t (whole first.now)) (path : IsPath t (all_items 0 t.harts) first last) where
  abbrev begun : Whole
  begun = whole first.now

  abbrev w : Whole
  w = whole last.now

  pcs_small : (j : ℕ) → ((partial_of begun).harts j).fixed.pc < 2 ^ 32
  pcs_small j = elim (cases_lt j (length t.harts)) [
    | inl lt ↦ subst (λ (f : Fixed). f.pc < 2 ^ 32) (sym (is.fixed j lt)) (state_small t.harts j lt keeps.states)
    | inr past ↦ subst (λ (b : Bare). (held_in b begun.memory).fixed.pc < 2 ^ 32) (sym (past_hart begun.harts j (let same = is.count in omega (arith, past, same)))) (omega arith)
  ]

  begun_fit : IsFit t keeps 0 begun
  begun_fit = record {
    records = subst AreRecords (sym is.traces) (no_records (length t.harts));
    pcs = pcs_small;
    names = λ n v h. absurd (cc (sym (ap (λ (ns : List (Option ℕ)). slice_index_or ns n None) is.names ∙ none_at (length t.names) n None) ∙ h));
    listed = subst (λ (ds : List Dropped). AreDroppedTo (length t.harts) 0 ds (place_of_step 0 (length (records_of 0 begun)))) (sym is.dropped) (omega arith);
    few = subst (λ (ds : List Dropped). length ds ≤ total begun.traces * file_limits.atoms) (sym is.dropped) (omega arith);
    many = ap length is.names ∙ length-replicate (length t.names) None;
    words = (let same = ap length is.listed ∙ many_numbered t.words in omega (arith, same));
  }

  total_begun : total begun.traces ≡ 0
  total_begun = ap total is.traces ∙ no_total (length t.harts)

  short : records_of_pieces path.ps + length path.choices ≤ 8192
  short = let own = path.short in let all = harts_within 0 t.harts in let most = keeps.length in omega (arith, own, all, most)

  fits : (j : ℕ) × IsFit t keeps j w × (total w.traces ≡ total begun.traces + records_of_pieces path.ps)
  fits =
      fit_made t keeps w 0 path.ps begun (count_in_head t.names)
      (subst (λ (l : LaidOut). AreUp 0 l.pieces) path.laid (laid_up 0 (all_items 0 t.harts) (harts_up 0 t.harts) path.choices))
      (path.order (count_in_head t.names) (harts_ahead 0 t.harts (count_in_head t.names) (length t.names) keeps.order.bodies)) (omega arith)
      (let none = total_begun in let few = short in omega (arith, none, few)) is.count path.made begun_fit

  pub done_fits : (c : Cert) → length w.harts ≡ length t.harts → length w.first ≡ length w.harts → Tells t w c → FitsFile c
  done_fits c harts firsts tells =
      let fit = fits.1 in
      let sum = fits.2 in
      let none = total_begun in
      let few = short in
      let listed = few_words w.ram w.words c.words tells.words in
      let words = fit.words in
      let given = keeps.words_count in
      let biases = fit.few in
      let steps = ap (λ (ts : List (List Record)). total ts) tells.traces in
      let summed = sum_is c.traces in
      let choices = ap length tells.choices in
      let taken = ap length (path.taken ∙ ap (λ (cs : List ℕ). cs ++ path.choices) is.choices) in
      let dropped = ap length tells.dropped in
      let started : length c.start ≡ length t.harts = ap length tells.start ∙ length-map w.first told_state ∙ firsts ∙ harts in
      record {
        records = subst AreRecords (sym tells.traces) fit.records;
        steps = omega (arith, summed, steps, sum, none, few);
        words_count = omega (arith, listed, words, given, sum, none, few);
        choices_count = omega (arith, choices, taken, few);
        names = subst (λ (u : Template). AreNamed u.names 0 c.names) (sym tells.template) (subst (AreNamed t.names 0) (sym tells.names)
            (names_listed t keeps 0 w.names (let many = keeps.names_count in let own = fit.many in omega (arith, many, own)) (λ n v h. let z : n ≡ 0 + n = omega arith in
            subst (λ (i : ℕ). (v < 2 ^ 32) × (is_in (sets_of t i) v ≡ true)) z (fit.names n v h))));
        dropped_count = omega (arith, dropped, biases, sum, none, few);
        dropped = subst (λ (n : ℕ). AreDroppedBy file_limits n 0 c.dropped) (sym started) (subst (AreDroppedBy file_limits (length t.harts) 0) (sym tells.dropped) (are_dropped (length t.harts) 0 w.dropped _ fit.listed));
      }
