-- The text of lines, part by part.
use Rattle.std.proofs.Common.{◌≡◌, ◌∙◌, ◌++◌, ℕ, List, [], ◌∷◌, codes, refl, sym, ap, ap₂, append_assoc, append-nil}
use Rattle.std.specs.List.{flat_map}
use Rattle.std.proofs.lemmas.Grind.{flat_map-append}
use Rattle.std.specs.Fmt.{decimal}
use Rattle.gw_generate.specs.Lines.{connection_of, host_of, route_line, send_line}
use Rattle.gw_generate.specs.Scripts.{text_of}

abbrev line_text : List ℕ → List ℕ
line_text line = line ++ 10 ∷ []

-- the text of both
text_append : (some others : List (List ℕ)) → text_of (some ++ others) ≡ text_of some ++ text_of others
text_append some others = flat_map-append line_text some others

-- the text of the lines of each
text_each : {X : Type 0} (lines : X → List (List ℕ)) (xs : List X) → text_of (flat_map lines xs) ≡ flat_map (λ x. text_of (lines x)) xs
text_each lines [] = refl
text_each lines (x ∷ xs) = text_append (lines x) (flat_map lines xs) ∙ ap (λ (rest : List ℕ). text_of (lines x) ++ rest) (text_each lines xs)

-- the text of three parts, of which two are the lines of each
pub text_of_parts : {X Y : Type 0} (first : List (List ℕ)) (f : X → List (List ℕ)) (xs : List X) (g : Y → List (List ℕ)) (ys : List Y)
    → text_of (first ++ flat_map f xs ++ flat_map g ys) ≡ text_of first ++ flat_map (λ x. text_of (f x)) xs ++ flat_map (λ y. text_of (g y)) ys
text_of_parts first f xs g ys =
    text_append (first ++ flat_map f xs) (flat_map g ys)
    ∙ ap (λ (t : List ℕ). t ++ text_of (flat_map g ys)) (text_append first (flat_map f xs))
    ∙ ap₂ (λ (a b : List ℕ). text_of first ++ a ++ b) (text_each f xs) (text_each g ys)

-- a piece behind others
pub behind : (s0 s1 s2 a b : List ℕ) → s1 ≡ s0 ++ a → s2 ≡ s1 ++ b → s2 ≡ s0 ++ (a ++ b)
behind s0 s1 s2 a b first second = second ∙ ap (λ (t : List ℕ). t ++ b) first ∙ append_assoc s0 a b

-- two pieces behind nothing, and behind others
pub two_pieces : (s0 s1 a b : List ℕ) → s1 ≡ s0 ++ a ++ b → s1 ≡ s0 ++ (a ++ b)
two_pieces s0 s1 a b both = both ∙ append_assoc s0 a b

pub two_behind : (s0 s1 s2 a b c : List ℕ) → s1 ≡ s0 ++ a → s2 ≡ s1 ++ b ++ c → s2 ≡ s0 ++ (a ++ b ++ c)
two_behind s0 s1 s2 a b c first both = behind s0 (s1 ++ b) s2 (a ++ b) c (behind s0 s1 (s1 ++ b) a b first refl) both

-- a line feed behind a line
pub line_ends : (s0 s1 s2 line : List ℕ) → s1 ≡ s0 ++ line → s2 ≡ s1 ++ 10 ∷ [] → s2 ≡ s0 ++ text_of (line ∷ [])
line_ends s0 s1 s2 line first end = behind s0 s1 s2 line (10 ∷ []) first end ∙ ap (λ (t : List ℕ). s0 ++ t) (sym (append-nil (line ++ 10 ∷ [])))

-- the line of a Route
pub route_written : (s0 s1 s2 s3 s4 s5 : List ℕ) (i digit : ℕ)
    → s1 ≡ s0 ++ codes "event {\"object\":{\"apiVersion\":\"gateway.networking.k8s.io/v1\",\"kind\":\"HTTPRoute\",\"metadata\":{\"name\":\"r" ++ decimal i
    → s2 ≡ s1 ++ codes "\"},\"spec\":{\"hostnames\":[\"h" ++ decimal i
    → s3 ≡ s2 ++ codes ".example.com\"],\"parentRefs\":[{\"name\":\"g\"}],\"rules\":[{\"backendRefs\":[{\"name\":\"s\",\"port\":80}],\"matches\":[{\"path\":{\"type\":\"PathPrefix\",\"value\":\"/p" ++ decimal digit
    → s4 ≡ s3 ++ codes "\"}}]}]}},\"type\":\"ADDED\"}" → s5 ≡ s4 ++ 10 ∷ [] → s5 ≡ s0 ++ text_of (route_line i digit ∷ [])
route_written s0 s1 s2 s3 s4 s5 i digit first second third fourth end =
    let named = (codes "event {\"object\":{\"apiVersion\":\"gateway.networking.k8s.io/v1\",\"kind\":\"HTTPRoute\",\"metadata\":{\"name\":\"r") ++ decimal i in
    let host = named ++ (codes "\"},\"spec\":{\"hostnames\":[\"h") ++ decimal i in
    let path = host ++ (codes ".example.com\"],\"parentRefs\":[{\"name\":\"g\"}],\"rules\":[{\"backendRefs\":[{\"name\":\"s\",\"port\":80}],\"matches\":[{\"path\":{\"type\":\"PathPrefix\",\"value\":\"/p") ++ decimal digit in
    line_ends s0 s4 s5 (route_line i digit)
    (behind s0 s3 s4 path (codes "\"}}]}]}},\"type\":\"ADDED\"}")
    (two_behind s0 s2 s3 host (codes ".example.com\"],\"parentRefs\":[{\"name\":\"g\"}],\"rules\":[{\"backendRefs\":[{\"name\":\"s\",\"port\":80}],\"matches\":[{\"path\":{\"type\":\"PathPrefix\",\"value\":\"/p") (decimal digit)
    (two_behind s0 s1 s2 named (codes "\"},\"spec\":{\"hostnames\":[\"h") (decimal i) (two_pieces s0 s1 (codes "event {\"object\":{\"apiVersion\":\"gateway.networking.k8s.io/v1\",\"kind\":\"HTTPRoute\",\"metadata\":{\"name\":\"r") (decimal i) first) second) third) fourth) end

-- the line of a request
pub request_written : (s0 s1 s2 s3 s4 s5 s6 s7 : List ℕ) (j i digit : ℕ)
    → s1 ≡ s0 ++ codes "send c" ++ decimal (connection_of j) → s2 ≡ s1 ++ codes " \"GET /p" ++ decimal digit → s3 ≡ s2 ++ codes "/q" ++ decimal j
    → s4 ≡ s3 ++ codes " HTTP/1.1\\r\\nHost: " → s5 ≡ s4 ++ host_of j i → s6 ≡ s5 ++ codes "\\r\\n\\r\\n\"" → s7 ≡ s6 ++ 10 ∷ []
    → s7 ≡ s0 ++ text_of (send_line j i digit ∷ [])
request_written s0 s1 s2 s3 s4 s5 s6 s7 j i digit first second third fourth fifth sixth end =
    let connection = codes "send c" ++ decimal (connection_of j) in
    let prefix = connection ++ codes " \"GET /p" ++ decimal digit in
    let target = prefix ++ codes "/q" ++ decimal j in
    let head = target ++ codes " HTTP/1.1\\r\\nHost: " in
    line_ends s0 s6 s7 (send_line j i digit)
    (behind s0 s5 s6 (head ++ host_of j i) (codes "\\r\\n\\r\\n\"")
    (behind s0 s4 s5 head (host_of j i)
    (behind s0 s3 s4 target (codes " HTTP/1.1\\r\\nHost: ")
    (two_behind s0 s2 s3 prefix (codes "/q") (decimal j)
    (two_behind s0 s1 s2 connection (codes " \"GET /p") (decimal digit) (two_pieces s0 s1 (codes "send c") (decimal (connection_of j)) first) second) third) fourth) fifth) sixth) end

-- a line between the texts of others
pub line_between : (s0 s1 s2 s3 : List ℕ) (some : List (List ℕ)) (line : List ℕ) (others : List (List ℕ)) → s1 ≡ s0 ++ text_of some → s2 ≡ s1 ++ text_of (line ∷ [])
    → s3 ≡ s2 ++ text_of others → s3 ≡ s0 ++ text_of (some ++ line ∷ others)
line_between s0 s1 s2 s3 some line others first second third =
    let rest : s3 ≡ s1 ++ text_of (line ∷ others) =
    behind s1 s2 s3 (text_of (line ∷ [])) (text_of others) second third ∙ ap (λ (t : List ℕ). s1 ++ t) (sym (text_append (line ∷ []) others)) in
    behind s0 s1 s3 (text_of some) (text_of (line ∷ others)) first rest ∙ ap (λ (t : List ℕ). s0 ++ t) (sym (text_append some (line ∷ others)))
