use Rattle.std.proofs.Common.{◌≡◌, ℕ, ◌+◌, ◌++◌, List, ◌∷◌, Option, drop, take, get_or, ap, ◌∙◌, sym, subst}
use Rattle.std.proofs.lemmas.List.{drop_more}
use Rattle.rv_mem.specs.Part.{part_at}
use Rattle.rv_script.specs.declared.access.Access.{Access}
use Rattle.rv_script.specs.Memory.{memory_after}
use Rattle.rv_hart.specs.declared.record.Record.{Record}
use Rattle.rv_hart.specs.Effects.{seen_after}
use Rattle.tpl_admit.specs.Races.{footprint_of}
use Rattle.replay_check.specs.Internal.Memory.{AreInWords, Shows}
use Rattle.replay_check.proofs.Behind.{one_record}
use Rattle.replay_check.proofs.Shown.{after_both, shown_after, shown_same}
use Rattle.replay_check.proofs.checking.do_all.Goals as goal

pub loop-record-preserved : goal.loop-record-preserved
loop-record-preserved c =
    let rs : List Record = c.args.records.now in
    let i : ℕ = c.loop-record.record-index in
    let r : Record = c.record-item.result in
    let split : drop i rs ≡ get_or rs i r ∷ drop (i + 1) rs = drop_more rs i r c.loop-record-test.true in
    record {
      words = (subst AreInWords split c.loop-record.invariant.words).1;
      shows = λ ram given m shows.
          let before = c.loop-record.invariant.shows ram given m shows in
          let done : List Access = footprint_of (take i rs) in
          let after : Shows ram given (memory_after r.accesses (memory_after done m)) (part_at c.apply_all.new.m) =
          shown_same ram given (memory_after r.accesses (memory_after done m)) (seen_after r.accesses (part_at c.loop-record.memory)) (part_at c.apply_all.new.m)
          (λ n. c.apply_all.ensures n ∙ ap (λ (xs : List Access). seen_after xs (part_at c.loop-record.memory) n) c.as_slice.ensures)
          (shown_after ram given (memory_after done m) (part_at c.loop-record.memory) r.accesses before) in
          let all : memory_after (footprint_of (take (i + 1) rs)) m ≡ memory_after r.accesses (memory_after done m) =
          ap (λ (xs : List Access). memory_after xs m) (one_record rs i r c.loop-record-test.true c.record-item.is) ∙ after_both done r.accesses m in
          subst (λ (w : ℕ → ℕ). Shows ram given w (part_at c.apply_all.new.m)) (sym all) after;
    }
