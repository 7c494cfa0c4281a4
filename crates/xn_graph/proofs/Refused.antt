-- A graph or a web within the limits is refused for no cause.
use Rattle.std.proofs.Common.{ℕ, List, inl, inr, arith}
use Rattle.xn_graph.specs.Limits.{IsLimitedGraph, IsLimitedWeb, graph_of}
use Rattle.xn_graph.specs.Refusals.{IsRefused, IsRefusedWeb}
use Rattle.xn_graph.specs.declared.graphs.GraphErr.{GraphErr}
use Rattle.xn_graph.specs.declared.graphs.GraphErr.TheVariants.{TooManyNodes, TooManyEdges, End, Loop}
use Rattle.xn_graph.specs.declared.webs.WebErr.{WebErr}
use Rattle.xn_graph.specs.declared.webs.WebErr.TheVariants as web_err
use Rattle.xn_graph.proofs.Ends.{EndsIn-at}

-- no cause fits a graph within the limits
pub IsRefused-not : (nodes : ℕ) (ends : List (ℕ × ℕ)) → IsLimitedGraph (graph_of nodes ends) → (x : GraphErr) → IsRefused nodes ends x → ⊥
IsRefused-not nodes ends g TooManyNodes p = omega (arith, g.few_nodes)
IsRefused-not nodes ends g TooManyEdges p = omega (arith, g.few_edges, p.1)
IsRefused-not nodes ends g (End e) p = p.1 (EndsIn-at nodes ends g.is_graph.ends_in e p.0.first.within)
IsRefused-not nodes ends g (Loop e) p = p.0.first.fails (p.1.0, p.1.1, g.is_graph.no_loop e p.0.first.within)

-- no cause fits a web within the limits
pub IsRefusedWeb-not : (nodes : ℕ) (ends : List (ℕ × ℕ)) → IsLimitedWeb (graph_of nodes ends) → (x : WebErr) → IsRefusedWeb nodes ends x → ⊥
IsRefusedWeb-not nodes ends web web_err.TooMany p = elim p [ inl more ↦ omega (arith, web.few_nodes) | inr more ↦ omega (arith, web.few_segments) ]
IsRefusedWeb-not nodes ends web (web_err.End s) p = p.2.fails (EndsIn-at nodes ends web.ends_in s p.2.within)
