use Rattle.std.proofs.Common.{◌≡◌, ◌<◌, ℕ, true, Option, ap, refl, sym, length, ◌∙◌, List, subst}
use Rattle.std.specs.List.{list_all}
use Rattle.rv_hart.specs.declared.record.Record.{Record}
use Rattle.tpl_ast.specs.Leaves.{atoms_of, is_name_below}
use Rattle.part_machine.specs.Whole.{Whole}
use Rattle.leaf_link.specs.Answers.{values_in}
use Rattle.leaf_turn.proofs.Keeping.{kept_then}
use Rattle.part_state.specs.State.{here}
use Rattle.gen_turn.proofs.Elsewhere.{hart_stays}
use Rattle.gen_turn.proofs.Takes.{same_after, same_ground, taken_leaf}
use Rattle.gen_turn.proofs.leaf.take_bind_and_list.Goals as goal

pub bind_names-requires : goal.bind_names-requires
bind_names-requires c =
    let still = c.in_ok-record.ensures.still in
    subst (λ (ns : List (Option ℕ)). list_all (is_name_below (length ns)) (atoms_of c.args.wishes.now) ≡ true) (sym still.names) c.requires.below

pub known_is_words-requires : goal.known_is_words-requires
known_is_words-requires c =
    let still = c.in_ok-record.ensures.still in
    let many : length (here c.drop_biases.new.part).harts ≡ length (here c.args.part.now).harts =
    ap (λ (w : Whole). length w.harts) (same_after c.args.hart c.args.wishes.now c.args.dropped.now (here c.args.part.now) (here c.take.new.part) (here c.bind_names.new.part) (here c.drop_biases.new.part) _ c.in-Ok.step c.in_ok-bind_names.ensures.now c.in_ok-drop_biases.ensures.now)
    ∙ still.harts in
    subst (λ (n : ℕ). c.args.hart < n) (sym many) c.requires.hart

pub returns-clause-taken : goal.returns-clause-taken
returns-clause-taken c =
    taken_leaf c.args.hart c.args.wishes.now c.args.dropped.now (here c.args.part.now) (here c.take.new.part) (here c.bind_names.new.part) (here c.drop_biases.new.part) _ c.in-Ok.step
    c.in_ok-bind_names.ensures.now c.in_ok-drop_biases.ensures.now (values_in c.args.x.now) _ c.in_ok-record.ensures.taken refl c.in_ok-record.ensures.before (c.in-Ok.ensures.1 ∙ ap (λ (rs : List Record). length rs) c.records.ensures)
    c.in_ok-record.ensures.fit c.is_test.ensures (record { aligned = c.known_is_words.ensures.aligned; known = c.known_is_words.ensures.words; fixed = c.known_is_words.ensures.fixed })

pub returns-clause-ground : goal.returns-clause-ground
returns-clause-ground c =
    same_ground c.args.hart c.args.wishes.now c.args.dropped.now (here c.args.part.now) (here c.take.new.part) (here c.bind_names.new.part) (here c.drop_biases.new.part) _ c.in-Ok.step
    c.in_ok-bind_names.ensures.now c.in_ok-drop_biases.ensures.now c.in_ok-record.ensures.still
    (λ j other. hart_stays c.args.hart j other (values_in c.args.x.now) _ (here c.args.part.now) (here c.take.new.part) c.in_ok-record.ensures.taken)
    c.is_test.ensures (record { aligned = c.known_is_words.ensures.aligned; known = c.known_is_words.ensures.words; fixed = c.known_is_words.ensures.fixed })

pub returns-clause-kept : goal.returns-clause-kept
returns-clause-kept c =
    kept_then c.args.part.now c.bind_names.new.part c.drop_biases.new.part (kept_then c.args.part.now c.take.new.part c.bind_names.new.part c.in_ok-record.ensures.kept c.in_ok-bind_names.ensures.kept) c.in_ok-drop_biases.ensures.kept
