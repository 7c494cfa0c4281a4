use Rattle.xn_loose.proofs.RoutesThere.{routes_are_there}
use Rattle.xn_loose.proofs.Shortest.{edges_come_in_by_least_routes, least_routes_are_simple, route_lengths_are_there, routes_become_simple, simple_routes_are_routes}
use Rattle.xn_loose.proofs.laws.shortest_routes.Goals as goal

pub returns-clause-there : goal.returns-clause-there
returns-clause-there c = routes_are_there

pub returns-clause-routes : goal.returns-clause-routes
returns-clause-routes c = simple_routes_are_routes

pub returns-clause-simple : goal.returns-clause-simple
returns-clause-simple c = routes_become_simple

pub returns-clause-least : goal.returns-clause-least
returns-clause-least c = least_routes_are_simple

pub returns-clause-length : goal.returns-clause-length
returns-clause-length c = route_lengths_are_there

pub returns-clause-comes : goal.returns-clause-comes
returns-clause-comes c = edges_come_in_by_least_routes
