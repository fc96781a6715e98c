use Rattle.part_state.specs.State.{whole}
use Rattle.gen_turn.proofs.DoneTests.{done_admitted, done_fits_file}
use Rattle.gen_turn.proofs.laws.done_tests_are_certified.Goals as goal

pub returns-clause-admitted : goal.returns-clause-admitted
returns-clause-admitted c t seed nodes turns last tally cert parses comes tells =
    done_admitted c.met_atoms_are_true.ensures c.steps_are_fetched.ensures c.values_are_by_places.ensures.words (record { fetch_words = c.entries_are_by_places.ensures.fetch_words; fault_words = c.entries_are_by_places.ensures.fault_words; unfetched = c.entries_are_by_places.ensures.unfetched }) c.answers_are_found.ensures c.turns_have_one_answer.ensures.still t seed nodes turns
    (c.template_law.ensures t.text t parses) last tally comes (c.templates_are_ready.ensures t nodes (whole comes.first) parses comes.begun comes.test) cert tells

pub returns-clause-fit : goal.returns-clause-fit
returns-clause-fit c t seed nodes turns last tally cert parses comes tells =
    done_fits_file c.met_atoms_are_true.ensures c.steps_are_fetched.ensures c.values_are_by_places.ensures.words (record { fetch_words = c.entries_are_by_places.ensures.fetch_words; fault_words = c.entries_are_by_places.ensures.fault_words; unfetched = c.entries_are_by_places.ensures.unfetched }) c.answers_are_found.ensures c.turns_have_one_answer.ensures.still t seed nodes turns
    (c.template_law.ensures t.text t parses) last tally comes (c.templates_are_ready.ensures t nodes (whole comes.first) parses comes.begun comes.test) cert tells
