-- The lines of a script, each without its line feed.
use Rattle.std.specs.Prelude.{ℕ, ◌+◌, ◌/◌, ◌%◌, List, [], ◌∷◌, ◌++◌, codes, ◌==◌, ◌||◌, slice_index, if◌then◌else◌}
use Rattle.std.specs.Fmt.{decimal}

-- The class, the Gateway with its one listener, the Service and its one endpoint.
abbrev pub object_lines : List (List ℕ)
object_lines =
    codes "event {\"type\":\"ADDED\",\"object\":{\"apiVersion\":\"gateway.networking.k8s.io/v1\",\"kind\":\"GatewayClass\",\"metadata\":{\"name\":\"c\"},\"spec\":{\"controllerName\":\"gateward.example/controller\"}}}"
    ∷ codes "event {\"type\":\"ADDED\",\"object\":{\"apiVersion\":\"gateway.networking.k8s.io/v1\",\"kind\":\"Gateway\",\"metadata\":{\"name\":\"g\"},\"spec\":{\"gatewayClassName\":\"c\",\"listeners\":[{\"name\":\"http\",\"port\":80,\"protocol\":\"HTTP\"}]}}}"
    ∷ codes "event {\"type\":\"ADDED\",\"object\":{\"apiVersion\":\"v1\",\"kind\":\"Service\",\"metadata\":{\"name\":\"s\"},\"spec\":{\"ports\":[{\"port\":80}]}}}"
    ∷ codes "event {\"type\":\"ADDED\",\"object\":{\"apiVersion\":\"discovery.k8s.io/v1\",\"kind\":\"EndpointSlice\",\"metadata\":{\"name\":\"s-1\",\"labels\":{\"kubernetes.io/service-name\":\"s\"}},\"addressType\":\"IPv4\",\"ports\":[{\"port\":8080}],\"endpoints\":[{\"addresses\":[\"10.0.0.1\"]}]}}"
    ∷ []

-- The Route of this number, for its own hostname and for the paths that begin with `/p` and its digit. The keys of each object stand in byte
-- order.
abbrev pub route_line : ℕ → ℕ → List ℕ
route_line i digit =
    codes "event {\"object\":{\"apiVersion\":\"gateway.networking.k8s.io/v1\",\"kind\":\"HTTPRoute\",\"metadata\":{\"name\":\"r" ++ decimal i
    ++ codes "\"},\"spec\":{\"hostnames\":[\"h" ++ decimal i
    ++ codes ".example.com\"],\"parentRefs\":[{\"name\":\"g\"}],\"rules\":[{\"backendRefs\":[{\"name\":\"s\",\"port\":80}],\"matches\":[{\"path\":{\"type\":\"PathPrefix\",\"value\":\"/p" ++ decimal digit
    ++ codes "\"}}]}]}},\"type\":\"ADDED\"}"

-- What is taken is published behind each hundredth Route, and behind the last one.
abbrev pub publish_lines : ℕ → ℕ → List (List ℕ)
publish_lines routes i = if (i + 1) % 100 == 0 || i + 1 == routes then codes "publish" ∷ [] else []

-- The lines of a Route of so many: of its number, with its digit.
abbrev pub route_lines : ℕ → ℕ × ℕ → List (List ℕ)
route_lines routes route = route_line route.0 route.1 ∷ publish_lines routes route.0

-- A connection has 500 requests: those of the numbers from 0 to 499 are of connection 0, and so on.
abbrev pub connection_of : ℕ → ℕ
connection_of j = j / 500

-- A connection of this number begins, of the one worker and at the one door.
abbrev pub open_line : ℕ → List ℕ
open_line connection = codes "open c" ++ decimal connection ++ codes " 0 0"

-- It ends.
abbrev pub end_line : ℕ → List ℕ
end_line connection = codes "end c" ++ decimal connection

-- The first request of a connection opens it.
abbrev pub open_lines : ℕ → List (List ℕ)
open_lines j = if j % 500 == 0 then open_line (connection_of j) ∷ [] else []

-- A request of this number is for the hostname of a Route; each eighth is for one that no Route has.
abbrev pub host_of : ℕ → ℕ → List ℕ
host_of j i = if j % 8 == 7 then codes "nobody.example.org" else codes "h" ++ decimal i ++ codes ".example.com"

-- The request of this number, for a Route of this number and digit.
abbrev pub send_line : ℕ → ℕ → ℕ → List ℕ
send_line j i digit =
    codes "send c" ++ decimal (connection_of j) ++ codes " \"GET /p" ++ decimal digit ++ codes "/q" ++ decimal j
    ++ codes " HTTP/1.1\\r\\nHost: " ++ host_of j i ++ codes "\\r\\n\\r\\n\""

-- The last request of a connection, and of all, ends it.
abbrev pub end_lines : ℕ → ℕ → List (List ℕ)
end_lines requests j = if (j + 1) % 500 == 0 || j + 1 == requests then end_line (connection_of j) ∷ [] else []

-- The lines of a request of so many: of its number, with the number of its Route, where the Routes have these digits.
abbrev pub request_lines : ℕ → List ℕ → ℕ × ℕ → List (List ℕ)
request_lines requests digits request =
    open_lines request.0 ++ send_line request.0 request.1 (slice_index digits request.1) ∷ end_lines requests request.0
