-- The certificate of a test in which a search is done is admitted by its template, and fits a file.
use Rattle.std.proofs.Common.{◌≡◌, ℕ, zero, suc, ◌+◌, List, [], ◌++◌, length, Option, Some, None, refl, sym, ap, ◌∙◌, arith}
use Rattle.std.specs.Prelude.{replicate, slice_index_or}
use Rattle.rv_hart.specs.declared.record.Record.{Record}
use Rattle.tpl_ast.specs.declared.template.Template.{Template}
use Rattle.tpl_ast.specs.Naming.{count_in_head}
use Rattle.tpl_ast.specs.Templates.{KeepsLimits}
use Rattle.tpl_admit.specs.declared.certificate.Cert.{Cert}
use Rattle.tpl_admit.specs.Admission.{Admits, trace_in}
use Rattle.tpl_admit.specs.Admitting.{failures_from, failures_of}
use Rattle.part_machine.specs.Whole.{Bare, Whole, no_hart}
use Rattle.part_state.specs.Beginning.{start_in}
use Rattle.part_state.specs.Meaning.{held_in}
use Rattle.part_state.specs.State.{whole}
use Rattle.part_state.specs.Told.{FitsFile, Tells}
use Rattle.leaf_link.specs.Admitted.{MetAreTrue, StepsAreFetched}
use Rattle.leaf_link.specs.Placing.{NewWordsAreFour}
use Rattle.leaf_turn.specs.Finding.{AnswersAreFound}
use Rattle.gen_search.specs.declared.draws.Tally.{Tally}
use Rattle.gen_search.specs.Laws.{StillAllows}
use Rattle.gen_search.specs.Ready.{BodiesAreReady}
use Rattle.gen_search.specs.Search.{Done, all_items}
use Rattle.gen_turn.specs.Generating.{Comes, IsOfStart}
use Rattle.gen_turn.specs.Rules.{Shown, can_be_taken, draft_rules, shown}
use Rattle.gen_turn.proofs.Admissions.{IsUnstarted, harts_admitted, name_found, told}
use Rattle.gen_turn.proofs.Ending.{comes_keep, own, walks_keep}
use Rattle.gen_turn.proofs.HartRuns.{made_later}
use Rattle.gen_turn.proofs.NamesAhead.{harts_ahead}
use Rattle.gen_turn.proofs.FitTests.{done_fits}
use Rattle.gen_turn.proofs.Paths.{EntriesAreByPlaces, IsCarried, IsPath, search_ends, sets_of, walk_ends}

nothing_at : {A : Type 0} (n i : ℕ) (d : A) → slice_index_or (replicate n d) i d ≡ d
nothing_at zero i d = refl
nothing_at (suc n) zero d = refl
nothing_at (suc n) (suc i) d = nothing_at n i d

module _ (met_are_true : MetAreTrue) (are_fetched : StepsAreFetched) (words_are_few : NewWordsAreFour) (entries : EntriesAreByPlaces) (found_law : AnswersAreFound) (still : StillAllows can_be_taken draft_rules) (t : Template) (seed nodes turns : ℕ) (keeps : KeepsLimits t.text t) (last : Shown) (tally : Tally) (comes : Comes t seed nodes turns (Done last tally))
    (ready : BodiesAreReady (can_be_taken (shown t nodes comes.first)) t.harts) where
  abbrev first : Shown
  first = shown t nodes comes.first

  abbrev w : Whole
  w = whole last.now

  carried : IsCarried met_are_true are_fetched words_are_few entries found_law still t turns (all_items 0 t.harts) first
  carried = record { ready = ready; test = comes.test; template = refl }

  path : IsPath t (all_items 0 t.harts) first last
  path = search_ends met_are_true are_fetched words_are_few entries found_law still t turns carried comes.searches.2 (walk_ends met_are_true are_fetched words_are_few entries found_law still t turns comes.searches.1 carried)

  stays : IsOfStart first last
  stays = comes_keep first turns comes.searches.2 (walks_keep first turns comes.searches.1 (own first turns))

  fresh : (c : Cert) (tells : Tells t w c) (j : ℕ) → IsUnstarted t keeps (whole comes.first) w comes.begun path.tested c.words tells.words.values
      (made_later (sets_of t) w _ (name_found last.now.names) path.ps (whole comes.first) path.made).start (stays.harts ∙ comes.begun.count) j (whole comes.first)
  fresh c tells j = record {
    records = ap (λ (ts : List (List Record)). slice_index_or ts j []) comes.begun.traces ∙ nothing_at (length t.harts) j [];
    now = ap (λ (bs : List Bare). held_in (slice_index_or bs j no_hart) (whole comes.first).memory) (sym comes.begun.first);
  }

  pub done_admitted : (c : Cert) → Tells t w c → Admits c
  done_admitted c tells =
      let same : trace_in c ≡ told t keeps (whole comes.first) w comes.begun path.tested c.words tells.words.values
      (made_later (sets_of t) w _ (name_found last.now.names) path.ps (whole comes.first) path.made).start (stays.harts ∙ comes.begun.count) =
      λ i. record { template = tells.template i; start = tells.start i; words = c.words; records = tells.traces i; choices = tells.choices i; names = tells.names i; dropped = tells.dropped i } in
      let choices : last.now.choices ≡ path.choices = path.taken ∙ ap (λ (cs : List ℕ). cs ++ path.choices) comes.begun.choices in
      ap failures_of same
      ∙ ap (λ (cs : List ℕ). failures_from (told t keeps (whole comes.first) w comes.begun path.tested c.words tells.words.values
      (made_later (sets_of t) w _ (name_found last.now.names) path.ps (whole comes.first) path.made).start (stays.harts ∙ comes.begun.count)) 0 t.harts (Some cs)) choices
      ∙ harts_admitted t keeps (whole comes.first) w comes.begun path.tested c.words tells.words.values
      (made_later (sets_of t) w _ (name_found last.now.names) path.ps (whole comes.first) path.made).start (stays.harts ∙ comes.begun.count) 0 t.harts path.choices (whole comes.first) (count_in_head t.names) path.ps
      (omega arith) (λ j. let z : j ≡ 0 + j = omega arith in ap (start_in t.harts) z) path.laid path.made
      (path.order (count_in_head t.names) (harts_ahead 0 t.harts (count_in_head t.names) (length t.names) keeps.order.bodies))
      (λ n le. ap (λ (ns : List (Option ℕ)). slice_index_or ns n None) comes.begun.names ∙ nothing_at (length t.names) n None)
      (λ j le lt. fresh c tells j)

  pub done_fits_file : (c : Cert) → Tells t w c → FitsFile c
  done_fits_file c tells = done_fits t nodes keeps first last comes.begun path c (stays.harts ∙ comes.begun.count) path.tested.first tells
