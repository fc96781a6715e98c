use Rattle.std.proofs.Common.{false, ◌≡◌, ℕ, ◌+◌, ◌*◌, ◌/◌, ◌%◌, ◌^◌, ◌<◌, Bool, true, ◌&&◌, List, ◌++◌, bit_and, ap, refl, ◌∙◌, arith}
use Rattle.std.proofs.lemmas.Nat.{and_mask, mod_below, pow_pos}
use Rattle.dom_set.specs.Elements.{is_in}
use Rattle.rv_csr.specs.declared.cause.Cause.{Cause}
use Rattle.rv_mem.specs.Ram.{in_ram}
use Rattle.sv_walk.specs.Translation.{Reached, At, Fails}
use Rattle.row_parts.specs.Internal.Blocks.{turned}
use Rattle.row_parts.specs.Gaps.{counts}
use Rattle.row_parts.specs.Rows.{End, Reaches, found, ends_in, is_of}
use Rattle.row_parts.proofs.Reaching.{arrives, reached, within}
use Rattle.row_parts.proofs.splitting.push_reached.Goals as goal

pub returns-in_ok-push_all-in-All : goal.returns-in_ok-push_all-in-All
returns-in_ok-push_all-in-All c = λ x root leaf small.
    let old : List End = ends_in c.args.rows.now.items x root leaf in
    let width : ℕ = c.args.width in
    let addr : ℕ = c.args.frame * 4096 + x % 2 ^ width in
    let one : Bool = counts c.args.news.now.apart x && (is_in c.args.set.now x && (is_of c.args.news.now.root root && is_of c.args.news.now.leaf leaf)) in
    let low : x % 2 ^ width < 2 ^ width = mod_below x (2 ^ width) (pow_pos width) in
    let there : in_ram c.args.ram.now (addr / 4) ≡ true = c.in-All.ensures.all refl (x % 2 ^ width) (omega arith) (omega (arith, low)) in
    let pa : c.args.frame * 4096 + bit_and x c.mask_of-mask.result ≡ addr =
    ap (λ (n : ℕ). c.args.frame * 4096 + bit_and x n) c.mask_of-mask.ensures ∙ ap (λ (n : ℕ). c.args.frame * 4096 + n) (and_mask x width) in
    c.in_ok-push_all-in-All.ensures x root leaf small
    ∙ ap (λ (r : Reached). old ++ found one (Reaches r))
    (ap (λ (n : ℕ). At n) pa ∙ arrives (in_ram c.args.ram.now) c.args.kind addr (within c.args.frame width x c.requires.width (omega (arith, c.if-frame-ge1048576.false)) c.requires.aligned) there)

pub returns-in_ok-push_chosen-in-Some-2 : goal.returns-in_ok-push_chosen-in-Some-2
returns-in_ok-push_chosen-in-Some-2 c = λ x root leaf small.
    let width : ℕ = c.args.width in
    let addr : ℕ = c.args.frame * 4096 + x % 2 ^ width in
    let ram : ℕ → Bool = in_ram c.args.ram.now in
    let counted : Bool = counts c.args.news.now.apart x in
    let one : Bool = is_of c.args.news.now.root root && is_of c.args.news.now.leaf leaf in
    let set : Bool = is_in c.args.set.now x in
    let mid : List End = ends_in c.push_chosen.new.rows.items x root leaf in
    let pa : c.args.frame * 4096 + bit_and x c.mask_of-mask.result ≡ addr =
    ap (λ (n : ℕ). c.args.frame * 4096 + bit_and x n) c.mask_of-mask.ensures ∙ ap (λ (n : ℕ). c.args.frame * 4096 + n) (and_mask x width) in
    reached (ends_in c.args.rows.now.items x root leaf) mid (ends_in c.push_chosen-in-Some.new.rows.items x root leaf)
    counted set one (set && turned true (ram (addr / 4))) (set && turned false (ram (addr / 4))) ram c.args.kind
    addr (c.args.frame * 4096 + bit_and x c.mask_of-mask.result)
    (c.in_ok-push_chosen-in-Some.ensures x root leaf small)
    (c.in_ok-push_chosen-in-Some-2.ensures x root leaf small ∙ ap (λ (cause : Cause). mid ++ found (counted && ((set && turned false (ram (addr / 4))) && one)) (Reaches (Fails cause))) c.access_cause.ensures)
    refl refl pa
    (within c.args.frame width x c.requires.width (omega (arith, c.if-frame-ge1048576.false)) c.requires.aligned)
