use Rattle.std.proofs.Common.{ℕ, List, [], ◌∷◌, ◌++◌, map, ap, ◌∙◌, subst, sym, length, ◌<◌}
use Rattle.std.proofs.lemmas.List.{map-append, length-map}
use Rattle.rv_hart.specs.declared.record.Record.{Record}
use Rattle.part_machine.specs.Whole.{Bare, bare, no_hart}
use Rattle.part_machine.proofs.Changes.{map_at}
use Rattle.part_state.proofs.News.{replicate_more, take_one_more}
use Rattle.part_state.proofs.logged.beginnings.Goals as goal

pub loop-hart-preserved : goal.loop-hart-preserved
loop-hart-preserved c =
    let i : ℕ = c.loop-hart.hart-index in
    let hs : List Bare = map bare c.args.harts.now in
    let below : i < length hs = subst (λ (n : ℕ). i < n) (sym (length-map c.args.harts.now bare)) c.loop-hart-test.true in
    record {
      first = ap (map bare) c.in_ok-push.ensures.items ∙ map-append bare c.loop-hart.first.items (c.copy_of.result ∷ [])
          ∙ ap (λ (bs : List Bare). bs ++ bare c.copy_of.result ∷ []) c.loop-hart.invariant.first
          ∙ take_one_more hs i (bare c.copy_of.result) no_hart below (c.copy_of.ensures ∙ map_at bare c.args.harts.now i c.hart-item.result no_hart c.loop-hart-test.true c.hart-item.is);
      traces = c.in_ok-push-2.ensures.items ∙ ap (λ (t : List Record). c.loop-hart.traces.items ++ t ∷ []) c.new.ensures
          ∙ ap (λ (ts : List (List Record)). ts ++ [] ∷ []) c.loop-hart.invariant.traces ∙ replicate_more i [];
    }
