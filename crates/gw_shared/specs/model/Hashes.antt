-- The hash of a key. It is known to all, and has no secret part: whoever chooses the keys can choose many of one hash.
use Rattle.std.specs.Prelude.{ℕ, ◌*◌, ◌^◌, ◌%◌, List, fold, bit_xor}

-- One byte more: "hash = hash XOR octet_of_data; hash = hash * FNV_prime". Source: FNV-1a of 64 bits, RFC 9923 section 2.
abbrev pub mixed : ℕ → ℕ → ℕ
mixed hash byte = (bit_xor hash byte * 1099511628211) % 2 ^ 64

-- The hash of these bytes.
unfoldable pub hash_of : List ℕ → ℕ
hash_of key = fold mixed 14695981039346656037 key
