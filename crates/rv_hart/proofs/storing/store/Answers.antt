use Rattle.std.proofs.Common.{◌≡◌, ℕ, ◌+◌, ◌%◌, ◌≤◌, get_or, ap, sym, ◌∙◌, arith}
use Rattle.rv_mem.specs.Bytes.{with_byte}
use Rattle.rv_mem.specs.declared.words.Seen.TheVariants.{Known}
use Rattle.rv_hart.proofs.Stores.{stored_so_far, byte_stored, byte_of_value, same_word}
use Rattle.rv_hart.proofs.storing.store.Goals as goal

pub set_byte-requires : goal.set_byte-requires
set_byte-requires g c =
    let inside = c.requires.within.within in
    let known = c.requires.known in
    let more : c.args.x.now.addr % 4 + (c.loop-i.i + 1) ≤ 4 = omega arith in
    record {
      known = (
        stored_so_far c.args.x.now c.loop-i.i known.0,
        ap (g.M.Words.at c.loop-i.m) (same_word c.args.x.now.addr c.from.result c.loop-i.i c.from.ensures more) ∙ c.loop-i.invariant.word known.0 known.1 known.2,
      );
    }

pub loop-i-preserved : goal.loop-i-preserved
loop-i-preserved g c =
    let inside = c.requires.within.within in
    let more : c.args.x.now.addr % 4 + (c.loop-i.i + 1) ≤ 4 = omega arith in
    let same = same_word c.args.x.now.addr c.from.result c.loop-i.i c.from.ensures more in
    record {
      word = λ w l k.
          ap (g.M.Words.at c.set_byte.new.self) (sym same)
          ∙ c.set_byte.ensures.byte (stored_so_far c.args.x.now c.loop-i.i w) (ap (g.M.Words.at c.loop-i.m) same ∙ c.loop-i.invariant.word w l k)
          ∙ ap (λ (n : ℕ). Known n)
          (ap (λ (r : ℕ). with_byte (stored_so_far c.args.x.now c.loop-i.i w) ((c.args.x.now.addr + r) % 4) (get_or c.to_le_bytes-bytes.result c.loop-i.i 0)) c.from.ensures
          ∙ byte_stored c.args.x.now c.loop-i.i w (get_or c.to_le_bytes-bytes.result c.loop-i.i 0) more
          (byte_of_value c.to_le_bytes-bytes.result c.args.x.now.value c.loop-i.i c.to_le_bytes-bytes.ensures (omega arith)));
      others = λ n apart. c.set_byte.ensures.others n (λ e. apart (e ∙ same)) ∙ c.loop-i.invariant.others n apart;
    }

pub returns-clause-word : goal.returns-clause-word
returns-clause-word g c = λ w l k.
    let all : c.loop-i.i ≡ c.args.x.now.size = omega arith in
    c.loop-i.invariant.word w l k ∙ ap (λ (i : ℕ). Known (stored_so_far c.args.x.now i w)) all
