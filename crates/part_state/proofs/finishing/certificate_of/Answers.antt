use Rattle.std.proofs.Common.{◌/◌, ℕ, map, Some, ap, sym, ◌∙◌, subst}
use Rattle.rv_mem.specs.Part.{part_at}
use Rattle.rv_mem.specs.Seen.{known_word}
use Rattle.part_told.specs.Words.{ListsWords}
use Rattle.part_state.proofs.finishing.certificate_of.Goals as goal

pub returns-clause-tells : goal.returns-clause-tells
returns-clause-tells c =
    let m = c.args.machine.now in
    let e = c.assembled.ensures in
    record {
      template = e.template;
      start = e.start ∙ c.in_ok-runs.ensures.start;
      finals = e.finals ∙ c.in_ok-runs.ensures.finals;
      traces = e.traces ∙ c.in_ok-runs.ensures.traces;
      words = subst (ListsWords m.ram m.words.items) (sym e.words) c.in_ok-memory.ensures.words;
      last =
          ap (map (λ (v : ℕ). Some v)) e.last ∙ c.in_ok-memory.ensures.last
          ∙ ap (map (λ (p : ℕ × ℕ). known_word (part_at m.memory (p.0 / 4)))) (sym e.words);
      choices = e.choices ∙ c.in_ok-way.ensures.choices;
      names = e.names ∙ c.in_ok-way.ensures.names;
      dropped = e.dropped ∙ c.in_ok-way.ensures.dropped;
    }
