-- The ends of groups of addresses.
use Rattle.std.proofs.Common.{◌≡◌, ℕ, ◌+◌, ◌*◌, ◌/◌, ◌%◌, ◌^◌, ◌<◌, Bool, true, false, ◌&&◌, List, [], ◌++◌, refl, sym, ap, ◌∙◌, arith}
use Rattle.std.proofs.lemmas.List.{append-nil}
use Rattle.dom_set.specs.Elements.{is_in}
use Rattle.rv_mem.specs.declared.words.Seen.{Seen}
use Rattle.row_parts.specs.Classes.{has_class}
use Rattle.sv_walk.specs.declared.entry.Kind.{Kind}
use Rattle.sv_walk.specs.Translation.{arrived}
use Rattle.row_parts.specs.Rows.{End, Reaches, when, found}

pub grouped : (a b c : Bool) (e : End) → found (a && (b && c)) e ≡ when (a && b) (found c e)
grouped true true c e = refl
grouped true false c e = refl
grouped false b c e = refl

pub no_group : (es : List End) (b : Bool) → es ≡ es ++ when b []
no_group es true = sym (append-nil es)
no_group es false = sym (append-nil es)

pub when_and : (a b : Bool) (es : List End) → when (a && b) es ≡ when a (when b es)
when_and true b es = refl
when_and false b es = refl

pub when_swap : (a b c : Bool) (es : List End) → when ((a && b) && c) es ≡ when (a && (b && c)) es
when_swap true b c es = refl
when_swap false b c es = refl

index : (x : ℕ) → x % 2 ^ 22 / 2 ^ 12 ≡ x / 2 ^ 12 % 2 ^ 10
index x = omega arith

top_index : (x : ℕ) → x < 2 ^ 32 → x % 2 ^ 32 / 2 ^ 22 ≡ x / 2 ^ 22
top_index x small = omega (arith, small)

pub second_class : (table : List Seen) (seen : Seen) (x : ℕ) (inside set word : Bool) (es : List End)
    → inside ≡ (set && has_class table seen (x % 2 ^ 22 / 2 ^ 12))
    → when (inside && word) es ≡ when (set && (has_class table seen (x / 2 ^ 12 % 2 ^ 10) && word)) es
second_class table seen x inside set word es is =
    ap (λ (b : Bool). when (b && word) es) (is ∙ ap (λ (i : ℕ). set && has_class table seen i) (index x))
    ∙ when_swap set (has_class table seen (x / 2 ^ 12 % 2 ^ 10)) word es

pub root_class : (table : List Seen) (seen : Seen) (x : ℕ) (inside set : Bool) (es : List End) → x < 2 ^ 32
    → inside ≡ (set && has_class table seen (x % 2 ^ 32 / 2 ^ 22))
    → when inside es ≡ when (set && has_class table seen (x / 2 ^ 22)) es
root_class table seen x inside set es small is =
    ap (λ (b : Bool). when b es) (is ∙ ap (λ (i : ℕ). set && has_class table seen i) (top_index x small))

zero_and : (x : ℕ) → x < 2 ^ 32 → 0 * 4096 + x % 2 ^ 32 ≡ x
zero_and x small = omega (arith, small)

-- without translation the address is the physical one
pub bare : (ram : ℕ → Bool) (kind : Kind) (x : ℕ) (set one : Bool) → x < 2 ^ 32 → found (set && one) (Reaches (arrived ram kind (0 * 4096 + x % 2 ^ 32))) ≡ when set (found one (Reaches (arrived ram kind x)))
bare ram kind x true one small = ap (λ (n : ℕ). found one (Reaches (arrived ram kind n))) (zero_and x small)
bare ram kind x false one small = refl

pub is_in_none : (xs : List ℕ) (x : ℕ) → xs ≡ [] → is_in xs x ≡ false
is_in_none xs x h = ap (λ (ys : List ℕ). is_in ys x) h

-- a group without an address has no ends
pub none_in : (xs : List ℕ) (x : ℕ) (set test word : Bool) (es old : List End) → xs ≡ [] → is_in xs x ≡ (set && test) → old ≡ old ++ when (set && (word && test)) es
none_in xs x set test word es old h is = go set test word (sym is ∙ is_in_none xs x h)
  where
    go : (a b c : Bool) → (a && b) ≡ false → old ≡ old ++ when (a && (c && b)) es
    go true true c e = absurd (cc e)
    go true false true e = sym (append-nil old)
    go true false false e = sym (append-nil old)
    go false b c e = sym (append-nil old)
