-- The operations one after another.
use Rattle.std.proofs.Common.{◌≡◌, ℕ, suc, ◌+◌, ◌-◌, ◌<◌, ◌≤◌, Bool, true, false, cond, List, [], ◌∷◌, map, find, Option, Some, None, arith, sym, ap, ◌∙◌}
use Rattle.std.specs.List.{cons_option, filter_map}
use Rattle.fd_prob.specs.declared.problem.Case.{Case}
use Rattle.fd_prob.specs.Spaces.{numbers_from, saturated, sum_of}

next : (n : ℕ) → n < 58 → numbers_from n (58 - n) ≡ n ∷ numbers_from (n + 1) (58 - (n + 1))
unfolding numbers_from
next n h = let e : 58 - n ≡ suc (58 - (n + 1)) = omega (arith, h) in ap (λ (k : ℕ). numbers_from n k) e

pub skipped : (f : ℕ → Option Case) (n : ℕ) → n < 58 → f n ≡ None → filter_map f (numbers_from n (58 - n)) ≡ filter_map f (numbers_from (n + 1) (58 - (n + 1)))
skipped f n h is = ap (λ (ns : List ℕ). filter_map f ns) (next n h) ∙ ap (λ (o : Option Case). cons_option o (filter_map f (numbers_from (n + 1) (58 - (n + 1))))) is

pub kept : (f : ℕ → Option Case) (n : ℕ) (c : Case) → n < 58 → f n ≡ Some c → filter_map f (numbers_from n (58 - n)) ≡ c ∷ filter_map f (numbers_from (n + 1) (58 - (n + 1)))
kept f n c h is = ap (λ (ns : List ℕ). filter_map f ns) (next n h) ∙ ap (λ (o : Option Case). cons_option o (filter_map f (numbers_from (n + 1) (58 - (n + 1))))) is

pub done : (f : ℕ → Option Case) (n : ℕ) → 58 ≤ n → filter_map f (numbers_from n (58 - n)) ≡ []
unfolding numbers_from
done f n h = let e : 58 - n ≡ 0 = omega (arith, h) in ap (λ (k : ℕ). filter_map f (numbers_from n k)) e

first_of : (test : Case → Bool) (c : Case) (cs : List Case) (b : Bool) → test c ≡ b → find test (c ∷ cs) ≡ cond b (Some c) (find test cs)
first_of test c cs b is = ap (λ (b : Bool). cond b (Some c) (find test cs)) is

pub is_found : (f : ℕ → Option Case) (test : Case → Bool) (n : ℕ) (c : Case) → n < 58 → f n ≡ Some c → test c ≡ true → find test (filter_map f (numbers_from n (58 - n))) ≡ Some c
is_found f test n c h is passes = ap (λ (cs : List Case). find test cs) (kept f n c h is) ∙ first_of test c (filter_map f (numbers_from (n + 1) (58 - (n + 1)))) true passes

pub is_passed : (f : ℕ → Option Case) (test : Case → Bool) (n : ℕ) (c : Case) → n < 58 → f n ≡ Some c → test c ≡ false → find test (filter_map f (numbers_from n (58 - n))) ≡ find test (filter_map f (numbers_from (n + 1) (58 - (n + 1))))
is_passed f test n c h is fails = ap (λ (cs : List Case). find test cs) (kept f n c h is) ∙ first_of test c (filter_map f (numbers_from (n + 1) (58 - (n + 1)))) false fails

adds : (a b c : ℕ) → saturated (saturated (a + saturated b) + c) ≡ saturated (a + (b + c))
adds a b c = omega arith

pub is_added : (f : ℕ → Option Case) (value : Case → ℕ) (n sum more : ℕ) (c : Case) → n < 58 → f n ≡ Some c → more ≡ saturated (sum + saturated (value c)) → saturated (more + sum_of (map value (filter_map f (numbers_from (n + 1) (58 - (n + 1)))))) ≡ saturated (sum + sum_of (map value (filter_map f (numbers_from n (58 - n)))))
is_added f value n sum more c h is added =
    let rest : List Case = filter_map f (numbers_from (n + 1) (58 - (n + 1))) in
    ap (λ (m : ℕ). saturated (m + sum_of (map value rest))) added ∙ adds sum (value c) (sum_of (map value rest)) ∙ sym (ap (λ (cs : List Case). saturated (sum + sum_of (map value cs))) (kept f n c h is))
