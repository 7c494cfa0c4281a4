-- Routes between two nodes: some are there, they need meet no face twice, and an edge comes in along a least one.
use Rattle.std.specs.Prelude.{◌≡◌, ◌≢◌, ℕ, ◌+◌, ◌≤◌, true, List, length}
use Rattle.xn_model.specs.Graph.{Graph, ends_at}
use Rattle.xn_model.specs.Loose.{IsLoose, IsRoute, IsRouteLength}
use Rattle.xn_model.specs.Map.{IsMap, Joined}
use Rattle.xn_loose.specs.Inserting.{EachMeetsOnce, IsOneMore}
use Rattle.xn_loose.specs.Routes.{AreFaceNames, IsSimpleRoute}

-- between two joined nodes there is a route that meets no face twice
abbrev pub RoutesAreThere : Type 0
RoutesAreThere =
    (nodes : ℕ) (ends : List (ℕ × ℕ)) (next name : ℕ → ℕ) → IsMap nodes ends next → AreFaceNames ends next name (λ c. true) →
    (u v : ℕ) → u ≢ v → Joined ends u v → (ds : List ℕ) × IsSimpleRoute ends name u ds v

-- such a route by names is a route
abbrev pub SimpleRoutesAreRoutes : Type 0
SimpleRoutesAreRoutes =
    (nodes : ℕ) (ends : List (ℕ × ℕ)) (next name : ℕ → ℕ) → IsMap nodes ends next → AreFaceNames ends next name (λ c. true) →
    (u v : ℕ) (ds : List ℕ) → IsSimpleRoute ends name u ds v → IsRoute ends next u ds v

-- and each route gives such a one that is no longer
abbrev pub RoutesBecomeSimple : Type 0
RoutesBecomeSimple =
    (nodes : ℕ) (ends : List (ℕ × ℕ)) (next name : ℕ → ℕ) → IsMap nodes ends next → AreFaceNames ends next name (λ c. true) →
    (u v : ℕ) (ds : List ℕ) → IsRoute ends next u ds v → (es : List ℕ) × IsSimpleRoute ends name u es v × (length es ≤ length ds)

-- a least route meets no face twice
abbrev pub LeastRoutesAreSimple : Type 0
LeastRoutesAreSimple =
    (nodes : ℕ) (ends : List (ℕ × ℕ)) (next name : ℕ → ℕ) → IsMap nodes ends next → AreFaceNames ends next name (λ c. true) →
    (u v r : ℕ) (ds : List ℕ) → IsRouteLength ends next u v r → IsRoute ends next u ds v → length ds ≡ r → IsSimpleRoute ends name u ds v

-- two joined nodes have a least length
abbrev pub RouteLengthsAreThere : Type 0
RouteLengthsAreThere =
    (nodes : ℕ) (ends : List (ℕ × ℕ)) (next : ℕ → ℕ) → IsMap nodes ends next → (u v : ℕ) → u ≢ v → Joined ends u v →
    (r : ℕ) × IsRouteLength ends next u v r

-- with just so many crossings an edge comes into a loose drawing
abbrev pub EdgesComeInByLeastRoutes : Type 0
EdgesComeInByLeastRoutes =
    (g : Graph) (edges all : List ℕ) (e further r : ℕ) (web : Graph) (next : ℕ → ℕ) (walks : ℕ → List ℕ) →
    IsLoose g edges further web next walks → IsOneMore (length g.ends) edges e all →
    IsRouteLength web.ends next (ends_at g.ends e).0 (ends_at g.ends e).1 r →
    (more : Graph) × (after : ℕ → ℕ) × (longer : ℕ → List ℕ) × IsLoose g all (further + r) more after longer
    × (EachMeetsOnce edges web.ends walks → EachMeetsOnce all more.ends longer)
