-- The values of numbers.
use Rattle.std.specs.Prelude.{ℕ, ◌+◌, ◌-◌, ◌*◌, ◌%◌, ◌^◌, List, [], ◌∷◌, Option, Some, None, Bool, ◌&&◌, length, nat_lt, nat_le, if◌then◌else◌}
use Rattle.std.specs.List.{list_all}

-- the value of a digit 0 to 9, A to F or a to f; 99, which no base has, of any other byte
abbrev pub digit_of : ℕ → ℕ
digit_of b =
    if nat_lt b 48 then 99
    else (if nat_lt b 58 then b - 48
    else (if nat_lt b 65 then 99
    else (if nat_lt b 71 then b - 55
    else (if nat_lt b 97 then 99
    else (if nat_lt b 103 then b - 87 else 99)))))

-- the value of digits that stand behind those of the value n
abbrev pub value_of : ℕ → ℕ → List ℕ → ℕ
value_of base n [] = n
value_of base n (d ∷ ds) = value_of base (n * base + digit_of d) ds

-- a value, where it is one of 32 bits
abbrev pub fitting : ℕ → Option ℕ
fitting n = if nat_lt n (2 ^ 32) then Some n else None

-- what stands for minus n, where n is at most 2 ^ 31
abbrev pub negated_of : ℕ → Option ℕ
negated_of n = if nat_le n (2 ^ 31) then Some ((2 ^ 32 - n) % 2 ^ 32) else None

-- one digit or more
abbrev pub are_digits : ℕ → List ℕ → Bool
are_digits base ds = nat_lt 0 (length ds) && list_all (λ d. nat_lt (digit_of d) base) ds
