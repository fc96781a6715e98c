-- How far a text has been written.
use Rattle.std.proofs.Common.{◌≡◌, ℕ, ◌+◌, ◌-◌, ◌≤◌, List, ◌++◌, length, take, drop, sym, ◌∙◌, ap, subst, arith, length-drop}
use Rattle.std.proofs.lemmas.List.{drop-drop}
use Rattle.std.proofs.Math.Seq.{take-add}
use Rattle.std.proofs.KnownBytes.{Appends-trans}
use Rattle.std.specs.declared.option.Option.{Option}
use Rattle.std.specs.Prelude.{None, Some}
use Rattle.std.specs.Io.KnownBytes.{Appends}
use Rattle.streams.specs.Sink.{HasRoom, RoomFalls}

-- a front of the text was appended, its room is used, and this is the rest
pub record Written (old new : Option (List ℕ)) (before after : Option ℕ) (text rest : List ℕ) : Type 0 where
  pub count : ℕ
  pub within : count + length rest ≡ length text
  pub left : rest ≡ drop count text
  pub appended : Appends old new (take count text)
  pub used : RoomFalls before after count

-- the room of two pieces, one after the other
pub RoomFalls-trans : (a b c : Option ℕ) (m n : ℕ) → RoomFalls a b m → RoomFalls b c n → RoomFalls a c (m + n)
RoomFalls-trans None None c m n p q = q
RoomFalls-trans None (Some y) c m n p q = absurd (cc p)
RoomFalls-trans (Some x) None c m n p q = absurd p
RoomFalls-trans (Some x) (Some y) None m n p q = absurd q
RoomFalls-trans (Some x) (Some y) (Some z) m n p q = omega arith

-- one more piece of the text
pub written_more : (a b c : Option (List ℕ)) (d e f : Option ℕ) (text rest after : List ℕ) (n : ℕ)
    → Written a b d e text rest → n ≤ length rest → Appends b c (take n rest) → RoomFalls e f n
    → after ≡ drop n rest → Written a c d f text after
written_more a b c d e f text rest after n w le grown falls is =
    let whole : take w.count text ++ take n rest ≡ take (w.count + n) text =
    ap (λ (l : List ℕ). take w.count text ++ take n l) w.left ∙ sym (take-add w.count n text) in
    record {
      count = w.count + n;
      within = omega (arith, w.within, ap length is, length-drop n rest);
      left = is ∙ ap (λ (l : List ℕ). drop n l) w.left ∙ drop-drop n w.count text;
      appended = subst (λ (l : List ℕ). Appends a c l) whole (Appends-trans a b c (take w.count text) (take n rest) w.appended grown);
      used = RoomFalls-trans d e f w.count n w.used falls;
    }

-- after n of the bytes were taken, the room holds the others
pub HasRoom-after : (old new : Option ℕ) (n size after : ℕ) → HasRoom old size → RoomFalls old new n → n ≤ size → after ≡ size - n → HasRoom new after
HasRoom-after None None n size after h f le is = tt
HasRoom-after None (Some b) n size after h f le is = absurd (cc f)
HasRoom-after (Some a) None n size after h f le is = absurd f
HasRoom-after (Some a) (Some b) n size after h f le is = omega arith
