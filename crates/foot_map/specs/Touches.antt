-- A footprint as a set of triples: which byte which hart touches in which role.
use Rattle.std.specs.Prelude.{◌≡◌, ℕ, ◌+◌, ◌-◌, ◌/◌, ◌%◌, ◌^◌, ◌<◌, ◌≤◌, Bool, ◌&&◌, ◌||◌, false, not, nat_eq, nat_le, nat_lt, List}
use Rattle.std.specs.List.{list_any}
use Rattle.rv_script.specs.declared.access.Role.{Role}
use Rattle.foot_map.specs.declared.touch.Touch.{Touch}
use Rattle.foot_map.specs.Order.{rank}

abbrev pub same_role : Role → Role → Bool
same_role r s = nat_eq (rank r) (rank s)

-- the touch is this triple
abbrev pub is_triple : Touch → ℕ → ℕ → Role → Bool
is_triple t b h r = nat_eq t.byte b && (nat_eq t.hart h && same_role t.role r)

-- the triple is in the set
abbrev pub has : List Touch → ℕ → ℕ → Role → Bool
has touches b h r = list_any (λ t. is_triple t b h r) touches

-- an access inside one aligned word: address, length
abbrev pub IsInWord : ℕ → ℕ → Type 0
IsInWord addr len = (0 < len) × (addr % 4 + len ≤ 4)

-- the triple is one of a hart's, in a role, on so many bytes from an address on
abbrev pub is_part : ℕ → Role → ℕ → ℕ → ℕ → ℕ → Role → Bool
is_part hart role addr len b h r = (nat_le addr b && nat_lt b (addr + len)) && (nat_eq hart h && same_role role r)

-- bit i of a mask, which stands for the byte i after an address
abbrev pub has_bit : ℕ → ℕ → Bool
has_bit mask i = nat_eq (mask / 2 ^ i % 2) 1

-- the triple is one of a hart's, in a role, on the masked bytes from an address on
abbrev pub is_masked : ℕ → Role → ℕ → ℕ → ℕ → ℕ → Role → Bool
is_masked hart role addr mask b h r = (nat_le addr b && has_bit mask (b - addr)) && (nat_eq hart h && same_role role r)

-- a set with the bytes of an access
abbrev pub IsAdded : ℕ → Role → ℕ → ℕ → List Touch → List Touch → Type 0
IsAdded hart role addr len old new = (b h : ℕ) (r : Role) → has new b h r ≡ (has old b h r || is_part hart role addr len b h r)

-- the mask of the bytes of an access that are not in the set
abbrev pub IsMaskOfNew : ℕ → Role → ℕ → ℕ → List Touch → ℕ → Type 0
IsMaskOfNew hart role addr len old mask = (i : ℕ) → has_bit mask i ≡ (nat_lt i len && not (has old (addr + i) hart role))

-- a byte of an access is not in the set
abbrev pub WantsMemory : ℕ → Role → ℕ → ℕ → List Touch → Type 0
WantsMemory hart role addr len old = (i : ℕ) × (i < len) × (has old (addr + i) hart role ≡ false)

-- a set without the masked bytes
abbrev pub IsRemoved : ℕ → Role → ℕ → ℕ → List Touch → List Touch → Type 0
IsRemoved hart role addr mask old new = (b h : ℕ) (r : Role) → has new b h r ≡ (has old b h r && not (is_masked hart role addr mask b h r))
