use Rattle.std.proofs.Common.{◌++◌, ◌<◌, List, sym, ◌∙◌, ap, arith, length}
use Rattle.std.specs.Prelude.{option_map}
use Rattle.std.proofs.lemmas.List.{map_push}
use Rattle.tpl_lang.specs.Tokens.{Token, pieces, tokens_of}
use Rattle.tpl_token.specs.Internal.Views.{view, views}
use Rattle.tpl_token.proofs.Pieces.{among_split, behind, past_blank, past_token, at_no_token}
use Rattle.tpl_token.proofs.token.tokens.Goals as goal

pub returns-in-None : goal.returns-in-None
unfolding tokens_of
returns-in-None c =
    let bs = c.loop-rest.rest.now in
    let some : 0 < length bs = omega arith in
    let front = views c.loop-rest.tokens.items in
    let split = among_split bs c.split_at.result.0.now c.split_at.result.1.now c.piece_len.result some c.piece_len.ensures.value c.split_at.ensures.front c.split_at.ensures.back in
    sym (at_no_token front _ (pieces c.split_at.result.1.now) (sym c.if-not-is_blank.ensures) (sym c.in-None.ensures))
    ∙ sym (ap (λ read. option_map (λ (ts : List Token). front ++ ts) read) split) ∙ c.loop-rest.invariant

pub loop-rest-preserved-in_ok-push-in-Some : goal.loop-rest-preserved-in_ok-push-in-Some
loop-rest-preserved-in_ok-push-in-Some c =
    let bs = c.loop-rest.rest.now in
    let some : 0 < length bs = omega arith in
    let front = views c.loop-rest.tokens.items in
    let pushed = ap views c.in_ok-push-in-Some.ensures.items ∙ map_push view c.loop-rest.tokens.items c.in-Some.token in
    let split = among_split bs c.split_at.result.0.now c.split_at.result.1.now c.piece_len.result some c.piece_len.ensures.value c.split_at.ensures.front c.split_at.ensures.back in
    ap (λ ts. behind ts (pieces c.split_at.result.1.now)) pushed
    ∙ sym (past_token front _ (pieces c.split_at.result.1.now) (view c.in-Some.token) (sym c.if-not-is_blank.ensures) (sym c.in-Some.ensures))
    ∙ sym (ap (λ read. option_map (λ (ts : List Token). front ++ ts) read) split) ∙ c.loop-rest.invariant

pub loop-rest-preserved : goal.loop-rest-preserved
loop-rest-preserved c =
    let bs = c.loop-rest.rest.now in
    let some : 0 < length bs = omega arith in
    let front = views c.loop-rest.tokens.items in
    let split = among_split bs c.split_at.result.0.now c.split_at.result.1.now c.piece_len.result some c.piece_len.ensures.value c.split_at.ensures.front c.split_at.ensures.back in
    sym (past_blank front c.split_at.result.0.now (pieces c.split_at.result.1.now) (sym c.if-not-is_blank.ensures))
    ∙ sym (ap (λ read. option_map (λ (ts : List Token). front ++ ts) read) split) ∙ c.loop-rest.invariant
