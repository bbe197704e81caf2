-- The parts of a script's line, which stand with one space between each two of them.
use Rattle.std.specs.Prelude.{ℕ, ◌-◌, List, [], ◌∷◌, length, slice_index, codes, Bool, ◌&&◌, ◌==◌, bytes_eq, nat_lt, nat_le, if◌then◌else◌, Option, None, Some}
use Rattle.std.specs.Char.{is_ascii_alphanumeric}
use Rattle.std.specs.List.{list_all, list_any, before_first, after_first}
use Rattle.gw_link.specs.declared.order.UpstreamCall.{UpstreamCall}
use Rattle.gw_link.specs.declared.order.UpstreamCall.TheVariants.{Connect, Send, Receive}
use Rattle.gw_requests.specs.Quoted.{quoted_bytes}

abbrev pub is_space : ℕ → Bool
is_space b = b == 32

-- The first part: what stands before the first space, or all.
abbrev pub first_part : List ℕ → List ℕ
first_part = before_first is_space

-- What follows the first space, or nothing.
abbrev pub other_parts : List ℕ → List ℕ
other_parts = after_first is_space

-- The last part: what follows the last space, or all.
abbrev pub last_part : List ℕ → List ℕ
last_part [] = []
last_part (b ∷ t) = if list_any is_space t then last_part t else (if is_space b then t else b ∷ t)

-- What stands before the last space, or nothing.
abbrev pub before_last : List ℕ → List ℕ
before_last [] = []
before_last (b ∷ t) = if list_any is_space t then b ∷ before_last t else []

-- A NAME: 1 to 64 letters and digits.
abbrev pub is_name : List ℕ → Bool
is_name t = nat_lt 0 (length t) && nat_le (length t) 64 && list_all is_ascii_alphanumeric t

abbrev pub name_of : List ℕ → Option (List ℕ)
name_of t = if is_name t then Some t else None

-- Between two quotes, which have no space outside of them.
abbrev pub is_quoted : List ℕ → Bool
is_quoted t = nat_lt 1 (length t) && slice_index t 0 == 34 && slice_index t (length t - 1) == 34

-- A TEXT: a JSON text in quotes, in which each character stands for the byte of its number.
abbrev pub text_of : List ℕ → Option (List ℕ)
text_of t = if is_quoted t then quoted_bytes t else None

-- The call in which a backend is to fail.
abbrev pub call_of : List ℕ → Option UpstreamCall
call_of t =
    if bytes_eq t (codes "open") then Some Connect
    else (if bytes_eq t (codes "send") then Some Send
    else (if bytes_eq t (codes "receive") then Some Receive
    else None))
