use Rattle.std.proofs.Common.{ℕ, List, ◌&&◌, leb, get_or, ap, ◌∙◌, arith}
use Rattle.std.proofs.lemmas.List.{take_all}
use Rattle.tpl_ast.specs.States.{is_key, is_legal_place}
use Rattle.given_start.specs.Knowledge.{known_of}
use Rattle.rv_system.proofs.Filled.{is_listed, next_key, passes_at, third_passes, with_places}
use Rattle.rv_system.proofs.filling.fill_csrs.Goals as goal

pub fill_csr-requires-clause-legal : goal.fill_csr-requires-clause-legal
fill_csr-requires-clause-legal c =
    let key : ℕ = get_or c.args.keys.now c.loop-key.key-index 0 in
    third_passes (leb 32 key) (is_key key) (is_legal_place (key, c.args.value))
    (passes_at (λ (x : ℕ). leb 32 x && (is_key x && is_legal_place (x, c.args.value))) c.args.keys.now c.loop-key.key-index 0 c.requires.keys c.loop-key-test.true)

pub loop-key-preserved : goal.loop-key-preserved
loop-key-preserved c = record {
  known = next_key (known_of c.args.hart.now) (known_of c.loop-key.hart) (known_of c.fill_csr.new.hart) c.args.keys.now c.loop-key.key-index c.args.value c.loop-key-test.true c.loop-key.invariant.known c.fill_csr.ensures.known;
  fixed = λ ram. c.fill_csr.ensures.fixed ram ∙ c.loop-key.invariant.fixed ram;
}

pub returns-clause-known : goal.returns-clause-known
returns-clause-known c = λ k.
    c.loop-key.invariant.known k
    ∙ ap (λ (keys : List ℕ). with_places (is_listed keys k) c.args.value (known_of c.args.hart.now k)) (take_all c.loop-key.key-index c.args.keys.now (omega (arith, c.loop-key-test.false)))
