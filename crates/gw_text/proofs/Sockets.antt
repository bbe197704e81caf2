-- The text of an address and of a socket names it, and std parses the same.
use Rattle.std.proofs.Common.{◌≡◌, ℕ, ◌^◌, ◌<◌, Bool, true, false, not, List, [], ◌∷◌, ◌++◌, length, refl, sym, subst, ap, ◌∙◌, append_assoc, arith, lit<, codes, Option, Some, None, Result, Ok, Err}
use Rattle.std.specs.Char.{is_ascii_digit}
use Rattle.std.specs.Fmt.{decimal}
use Rattle.std.specs.List.{list_all, slice_split, position_or_len, before_first, after_first, join_with_byte}
use Rattle.std.specs.Result.{result_ok}
use Rattle.std.specs.Net.Addr.{ipv4_octets}
use Rattle.std.specs.Net.Grammar.{Parses, IsIpv4Text}
use Rattle.std.specs.Net.Text.{dotted_text}
use Rattle.std.specs.declared.net.ipv4_addr.Ipv4Addr.{Ipv4Addr}
use Rattle.std.proofs.Math.Seq.{take-append_seam, drop-append-add}
use Rattle.std.proofs.lemmas.Bool.Decides.{nat_tests}
use Rattle.std.proofs.lemmas.Fmt.{digits_decimal}
use Rattle.std.proofs.lemmas.List.Folds.{list_all-append}
use Rattle.std.proofs.lemmas.List.Splits.{slice_split_at, slice_split_none, join_with_byte-slice_split}
use Rattle.std.proofs.lemmas.List.Sums.{AllPass-from_list_all}
use Rattle.std.proofs.lemmas.Option.{same_Some}
use Rattle.gw_text.specs.model.Addresses.{Socket, octet_of, written_in, ipv4_of, is_colon, port_of, socket_of, address_text, socket_text}
use Rattle.gw_text.specs.model.Chains.{◌>>=◌}
use Rattle.gw_text.specs.model.Forms.{is_dot}
use Rattle.gw_text.proofs.Decimals.{digits, both, number_up_to-decimal, decimal-number_up_to}

-- A text in which no byte passes.
abbrev pub lacks : (ℕ → Bool) → List ℕ → Bool
lacks p = list_all (λ b. not (p b))

not_true : (b : Bool) → not b ≡ true → b ≡ false
not_true true e = cc
not_true false e = refl

digits_lack : (p : ℕ → Bool) → ((b : ℕ) → is_ascii_digit b ≡ true → p b ≡ false) → (ds : List ℕ) → list_all is_ascii_digit ds ≡ true → lacks p ds ≡ true
digits_lack p other [] h = refl
digits_lack p other (b ∷ ds) h = let k = both (is_ascii_digit b) (list_all is_ascii_digit ds) h in rw (other b k.0, digits_lack p other ds k.1)

decimal_lacks : (p : ℕ → Bool) → ((b : ℕ) → is_ascii_digit b ≡ true → p b ≡ false) → (n : ℕ) → n < 2 ^ 64 → lacks p (decimal n) ≡ true
decimal_lacks p other n h = digits_lack p other _ (digits_decimal digits n h)

digit_no_dot : (b : ℕ) → is_ascii_digit b ≡ true → is_dot b ≡ false
digit_no_dot b h = grind (arith, nat_tests)

digit_no_colon : (b : ℕ) → is_ascii_digit b ≡ true → is_colon b ≡ false
digit_no_colon b h = grind (arith, nat_tests)

-- The first separator comes after a text that lacks it.
position-separator : (p : ℕ → Bool) (xs : List ℕ) (y : ℕ) (ys : List ℕ) → lacks p xs ≡ true → p y ≡ true → position_or_len p (xs ++ y ∷ ys) ≡ length xs
position-separator p [] y ys h e = rw e
position-separator p (x ∷ xs) y ys h e =
    let k = both (not (p x)) (lacks p xs) h in
    let passed : p x ≡ false = not_true (p x) k.0 in
    rw (passed, position-separator p xs y ys k.1 e) (omega arith)

before-separator : (p : ℕ → Bool) (xs : List ℕ) (y : ℕ) (ys : List ℕ) → lacks p xs ≡ true → p y ≡ true → before_first p (xs ++ y ∷ ys) ≡ xs
before-separator p xs y ys h e = rw (position-separator p xs y ys h e) (take-append_seam xs (y ∷ ys))

after-separator : (p : ℕ → Bool) (xs : List ℕ) (y : ℕ) (ys : List ℕ) → lacks p xs ≡ true → p y ≡ true → after_first p (xs ++ y ∷ ys) ≡ ys
after-separator p xs y ys h e = rw (position-separator p xs y ys h e) (drop-append-add xs (y ∷ ys) 1)

split-separator : (p : ℕ → Bool) (xs : List ℕ) (y : ℕ) (ys : List ℕ) → lacks p xs ≡ true → p y ≡ true → slice_split p (xs ++ y ∷ ys) ≡ xs ∷ slice_split p ys
split-separator p xs y ys h e = slice_split_at p xs y ys (λ k d lt. not_true _ (AllPass-from_list_all (λ b. not (p b)) xs h k d lt)) e

split-none : (p : ℕ → Bool) (xs : List ℕ) → lacks p xs ≡ true → slice_split p xs ≡ xs ∷ []
split-none p xs h = slice_split_none p xs (λ k d lt. not_true _ (AllPass-from_list_all (λ b. not (p b)) xs h k d lt))

-- Each part of the socket is in its type's range.
pub record IsInRange (s : Socket) : Type 0 where
  pub a : s.a < 2 ^ 8
  pub b : s.b < 2 ^ 8
  pub c : s.c < 2 ^ 8
  pub d : s.d < 2 ^ 8
  pub port : s.port < 2 ^ 16

octet_lacks : (p : ℕ → Bool) → ((b : ℕ) → is_ascii_digit b ≡ true → p b ≡ false) → (n : ℕ) → n < 2 ^ 8 → lacks p (decimal n) ≡ true
octet_lacks p other n h = decimal_lacks p other n (omega arith)

nested : (a b c d : ℕ) → dotted_text a b c d ≡ decimal a ++ 46 ∷ (decimal b ++ 46 ∷ (decimal c ++ 46 ∷ decimal d))
nested a b c d = simp append_assoc

octet_of-decimal : (n : ℕ) → n < 2 ^ 8 → octet_of (decimal n) ≡ Some n
octet_of-decimal n h = number_up_to-decimal 255 n (lit< tt) (omega arith)

ipv4_of-dotted_text : (a b c d : ℕ) → (a < 2 ^ 8) × (b < 2 ^ 8) × (c < 2 ^ 8) × (d < 2 ^ 8) → ipv4_of (dotted_text a b c d) ≡ Some (record { octets = a ∷ b ∷ c ∷ d ∷ [] })
unfolding ipv4_of
ipv4_of-dotted_text a b c d h =
    let parts : slice_split is_dot (dotted_text a b c d) ≡ decimal a ∷ decimal b ∷ decimal c ∷ decimal d ∷ [] =
    ap (slice_split is_dot) (nested a b c d)
    ∙ split-separator is_dot _ 46 _ (octet_lacks is_dot digit_no_dot a h.0) refl
    ∙ ap (λ (ps : List (List ℕ)). decimal a ∷ ps) (split-separator is_dot _ 46 _ (octet_lacks is_dot digit_no_dot b h.1) refl)
    ∙ ap (λ (ps : List (List ℕ)). decimal a ∷ decimal b ∷ ps) (split-separator is_dot _ 46 _ (octet_lacks is_dot digit_no_dot c h.2) refl)
    ∙ ap (λ (ps : List (List ℕ)). decimal a ∷ decimal b ∷ decimal c ∷ ps) (split-none is_dot _ (octet_lacks is_dot digit_no_dot d h.3)) in
    ap written_in parts ∙ rw (octet_of-decimal a h.0, octet_of-decimal b h.1, octet_of-decimal c h.2, octet_of-decimal d h.3)

-- A text that writes an address is the address's,
ipv4_of-text : (text : List ℕ) (address : Ipv4Addr) → IsIpv4Text text address → ipv4_of text ≡ Some address
ipv4_of-text text address h = rw h.spelled (ipv4_of-dotted_text h.a h.b h.c h.d h.fit ∙ λ i. Some (record { octets = sym h.value i }))

then : {A B P : Type 0} (o : Option A) (f : A → Option B) (y : B) → (o >>= f) ≡ Some y → ((x : A) → o ≡ Some x → f x ≡ Some y → P) → P
then None f y e k = cc
then (Some x) f y e k = k x refl e

octet_spelled : (n : ℕ) (t : List ℕ) → octet_of t ≡ Some n → (n < 2 ^ 8) × (t ≡ decimal n)
octet_spelled n t e = let k = decimal-number_up_to 255 n t (lit< tt) e in (omega arith, k.1)

written_text : (parts : List (List ℕ)) (address : Ipv4Addr) → written_in parts ≡ Some address → IsIpv4Text (join_with_byte 46 parts) address
written_text [] address e = cc
written_text (a ∷ []) address e = cc
written_text (a ∷ b ∷ []) address e = cc
written_text (a ∷ b ∷ c ∷ []) address e = cc
written_text (a ∷ b ∷ c ∷ d ∷ []) address e =
    then _ _ address e λ n₁ e₁ rest₁.
    then _ _ address rest₁ λ n₂ e₂ rest₂.
    then _ _ address rest₂ λ n₃ e₃ rest₃.
    then _ _ address rest₃ λ n₄ e₄ rest₄.
    let one = octet_spelled n₁ a e₁ in
    let two = octet_spelled n₂ b e₂ in
    let three = octet_spelled n₃ c e₃ in
    let four = octet_spelled n₄ d e₄ in
    record {
      a = n₁;
      b = n₂;
      c = n₃;
      d = n₄;
      fit = (one.0, two.0, three.0, four.0);
      value = sym (ap ipv4_octets (same_Some _ _ rest₄));
      spelled = rw (one.1, two.1, three.1, four.1) (sym (nested n₁ n₂ n₃ n₄));
    }
written_text (a ∷ b ∷ c ∷ d ∷ f ∷ parts) address e = cc

-- and no other.
text-ipv4_of : (text : List ℕ) (address : Ipv4Addr) → ipv4_of text ≡ Some address → IsIpv4Text text address
unfolding ipv4_of
text-ipv4_of text address e = subst (λ (t : List ℕ). IsIpv4Text t address) (join_with_byte-slice_split 46 text) (written_text (slice_split is_dot text) address e)

-- What std parses is the address that the text writes.
pub ipv4_parsed : {E : Type 0} (text : List ℕ) (r : Result Ipv4Addr E) → Parses IsIpv4Text text r → result_ok r ≡ ipv4_of text
ipv4_parsed text (Ok address) h = sym (ipv4_of-text text address h)
ipv4_parsed text (Err e) h = none (ipv4_of text) refl
  where
    none : (o : Option Ipv4Addr) → ipv4_of text ≡ o → None ≡ ipv4_of text
    none None is = sym is
    none (Some address) is = absurd (h address (text-ipv4_of text address is))

lacks-append : (p : ℕ → Bool) (xs ys : List ℕ) → lacks p xs ≡ true → lacks p ys ≡ true → lacks p (xs ++ ys) ≡ true
lacks-append p xs ys h k = rw (list_all-append (λ b. not (p b)) xs ys, h, k)

address_lacks : (s : Socket) → IsInRange s → lacks is_colon (address_text s) ≡ true
address_lacks s h =
    let k = octet_lacks is_colon digit_no_colon in
    let d = decimal s.d in
    let cd = decimal s.c ++ 46 ∷ d in
    let bcd = decimal s.b ++ 46 ∷ cd in
    let two : lacks is_colon cd ≡ true = lacks-append is_colon (decimal s.c) (46 ∷ d) (k s.c h.c) (k s.d h.d) in
    let three : lacks is_colon bcd ≡ true = lacks-append is_colon (decimal s.b) (46 ∷ cd) (k s.b h.b) two in
    rw (nested s.a s.b s.c s.d) (lacks-append is_colon (decimal s.a) (46 ∷ bcd) (k s.a h.a) three)

pub socket_of-socket_text : (s : Socket) → IsInRange s → socket_of (socket_text s) ≡ Some s
unfolding socket_of
socket_of-socket_text s h =
    let cut : socket_text s ≡ address_text s ++ 58 ∷ decimal s.port = append_assoc (address_text s) (codes ":") (decimal s.port) in
    let before : before_first is_colon (socket_text s) ≡ address_text s = ap (before_first is_colon) cut ∙ before-separator is_colon (address_text s) 58 (decimal s.port) (address_lacks s h) refl in
    let after : after_first is_colon (socket_text s) ≡ decimal s.port = ap (after_first is_colon) cut ∙ after-separator is_colon (address_text s) 58 (decimal s.port) (address_lacks s h) refl in
    let port : port_of (decimal s.port) ≡ Some s.port = number_up_to-decimal 65535 s.port (lit< tt) (omega (arith, h.port)) in
    rw (before, after, port, ipv4_of-dotted_text s.a s.b s.c s.d (h.a, h.b, h.c, h.d))
