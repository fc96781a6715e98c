use Rattle.std.proofs.Common.{◌≡◌, ℕ, ◌*◌, List, length, map, sym, ap, ◌∙◌, subst, arith}
use Rattle.std.specs.List.{AllByRecursion}
use Rattle.std.proofs.lemmas.List.{length-map}
use Rattle.rv_mem.specs.Ram.{in_ram}
use Rattle.tpl_ast.specs.declared.template.HartDecl.{HartDecl}
use Rattle.tpl_ast.specs.States.{IsState, is_in_ram}
use Rattle.given_start.specs.Internal.Regions.{AreAligned}
use Rattle.given_start.proofs.Aligned.{frames_aligned, same_ram}
use Rattle.part_machine.specs.Whole.{Bare, Whole, bare}
use Rattle.part_told.specs.Words.{AreListed}
use Rattle.part_state.specs.Beginning.{AreHartsOf, IsBegun, IsBegunFrom, ends_of}
use Rattle.part_state.specs.Internal.Parts.{now_of}
use Rattle.part_state.proofs.Begins.{listed, begun}
use Rattle.part_state.proofs.States.{here_is}
use Rattle.part_state.proofs.part.Part.new.Goals as goal

pub ram_of-requires : goal.ram_of-requires
ram_of-requires c = subst AreAligned (sym c.as_slice.ensures) (frames_aligned c.args.t.now.ram (c.template_law.ensures c.args.t.now.text c.args.t.now c.requires.parses).ram)

pub harts_of-requires-clause-count : goal.harts_of-requires-clause-count
harts_of-requires-clause-count c =
    let few = (c.template_law.ensures c.args.t.now.text c.args.t.now c.requires.parses).harts in
    let same : length c.as_slice-2.result.now ≡ length c.args.t.now.harts = ap (λ (ds : List HartDecl). length ds) c.as_slice-2.ensures in
    omega (arith, few, same)

pub harts_of-requires-clause-states : goal.harts_of-requires-clause-states
harts_of-requires-clause-states c =
    let t = c.args.t.now in
    subst (λ (ds : List HartDecl). AllByRecursion (λ (d : HartDecl). IsState d.start) ds) (sym c.as_slice-2.ensures) (c.template_law.ensures t.text t c.requires.parses).states

pub begun-requires-clause-words : goal.begun-requires-clause-words
begun-requires-clause-words c =
    let t = c.args.t.now in
    let ends : c.in_ok-ram.ram ≡ ends_of t.ram = c.in_ok-ram.ensures ∙ ap ends_of c.as_slice.ensures in
    let same : (n : ℕ) → in_ram c.in_ok-ram.ram n ≡ is_in_ram t.ram (n * 4) = λ n. ap (λ (es : List (ℕ × ℕ)). in_ram es n) ends ∙ same_ram t.ram n in
    subst (λ (es : List (ℕ × ℕ)). AreListed c.in_ok-ram.ram 0 es) (sym c.as_slice-3.ensures) (listed t.ram c.in_ok-ram.ram same 0 t.words (c.template_law.ensures t.text t c.requires.parses).words)

pub begun-requires-clause-fit : goal.begun-requires-clause-fit
begun-requires-clause-fit c = λ k l.
    let are : AreHartsOf c.as_slice-2.result.now (map bare c.in_ok-harts.harts.items) = c.in_ok-harts.ensures in
    (are.each k (omega (arith, l, are.count, length-map c.in_ok-harts.harts.items bare))).fit

pub begun-requires-clause-numbers : goal.begun-requires-clause-numbers
begun-requires-clause-numbers c = λ k l.
    let are : AreHartsOf c.as_slice-2.result.now (map bare c.in_ok-harts.harts.items) = c.in_ok-harts.ensures in
    (are.each k (omega (arith, l, are.count, length-map c.in_ok-harts.harts.items bare))).number

pub returns-clause-now : goal.returns-clause-now
returns-clause-now c =
    let t = c.args.t.now in
    let harts : List Bare = map bare c.in_ok-harts.harts.items in
    let w : Whole = now_of c.in_ok-inner.inner in
    let ends : c.in_ok-ram.ram ≡ ends_of t.ram = c.in_ok-ram.ensures ∙ ap ends_of c.as_slice.ensures in
    let same : (n : ℕ) → in_ram c.in_ok-ram.ram n ≡ is_in_ram t.ram (n * 4) = λ n. ap (λ (es : List (ℕ × ℕ)). in_ram es n) ends ∙ same_ram t.ram n in
    let are : AreHartsOf t.harts harts = subst (λ (ds : List HartDecl). AreHartsOf ds harts) c.as_slice-2.ensures c.in_ok-harts.ensures in
    let counted : IsBegunFrom harts c.in_ok-ram.ram (length t.names) c.as_slice-3.result.now w = subst (λ (n : ℕ). IsBegunFrom harts c.in_ok-ram.ram n c.as_slice-3.result.now w) c.len.ensures c.in_ok-inner.ensures.now in
    let from : IsBegunFrom harts c.in_ok-ram.ram (length t.names) t.words w = subst (λ (es : List (ℕ × ℕ)). IsBegunFrom harts c.in_ok-ram.ram (length t.names) es w) c.as_slice-3.ensures counted in
    subst (IsBegun t) (sym (here_is c.in_ok-inner.inner c.in_ok-inner.ensures.kept)) (begun t harts c.in_ok-ram.ram w ends same are (c.template_law.ensures t.text t c.requires.parses).words from)
