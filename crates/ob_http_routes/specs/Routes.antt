-- The routes of the desk: what a path stands for.
use Rattle.std.specs.Prelude.{ℕ, List, [], ◌∷◌, ◌++◌, ◌+◌, Option, Some, None, option_map, codes, drop, length}
use Rattle.matchit.specs.Rows.{RowsOf, param_token}
use Rattle.matchit.specs.Router.{RouteOf}
use Rattle.matchit.specs.Seek.{first}
use Rattle.ob_base.specs.Fields.{number_in, unix_second_in}
use Rattle.ob_http_routes.specs.declared.routes.Route.{Route}
use Rattle.ob_http_routes.specs.declared.routes.Route.TheVariants as routes
use Rattle.ob_http_routes.specs.declared.routes.View.{View}
use Rattle.ob_http_routes.specs.declared.routes.View.TheVariants as views

-- a route of this text alone
abbrev pub plain : List ℕ → Route → List ℕ × RouteOf Route
plain text route = (text, record { pattern = text; text = text; names = []; value = route })

-- a route of a text of so many bytes, and then one segment with this word for its number, which the path says
abbrev pub numbered : List ℕ → ℕ → List ℕ → Route → List ℕ × RouteOf Route
numbered text at word route =
    (text ++ param_token ∷ [], record { pattern = text ++ param_token ∷ []; text = text ++ codes "{" ++ word ++ codes "}"; names = (at + 1, at + 1 + length word) ∷ []; value = route })

-- the table of the routes
abbrev pub desk_routes : RowsOf (RouteOf Route)
desk_routes =
    numbered (codes "/commands/") 10 (codes "no") (routes.Command 0)
    ∷ plain (codes "/commands") routes.Commands
    ∷ numbered (codes "/entries/") 9 (codes "no") (routes.View (views.Entry 0))
    ∷ plain (codes "/import") routes.Import
    ∷ plain (codes "/indices") (routes.View views.Indices)
    ∷ plain (codes "/plan") routes.Plan
    ∷ numbered (codes "/supply/") 8 (codes "second") (routes.View (views.Supply 0))
    ∷ plain (codes "/table") (routes.View views.Table)
    ∷ plain (codes "/totals") (routes.View views.Totals)
    ∷ []

-- the number that follows so many bytes of a path: 1 to 10 digits, at most 4,294,967,295
abbrev pub number_at : ℕ → List ℕ → Option ℕ
number_at at path = number_in 10 0 4_294_967_295 (drop at path)

-- the second that follows so many bytes of a path: 1 to 11 digits
abbrev pub second_at : ℕ → List ℕ → Option ℕ
second_at at path = unix_second_in (drop at path)

-- the view that a path of its row stands for
abbrev pub view_at : View → List ℕ → Option View
view_at views.Totals path = Some views.Totals
view_at views.Indices path = Some views.Indices
view_at views.Table path = Some views.Table
view_at (views.Entry row) path = option_map (λ number. views.Entry number) (number_at 9 path)
view_at (views.Supply row) path = option_map (λ second. views.Supply second) (second_at 8 path)

-- what a path of this row stands for
abbrev pub route_at : Route → List ℕ → Option Route
route_at routes.Commands path = Some routes.Commands
route_at routes.Import path = Some routes.Import
route_at routes.Plan path = Some routes.Plan
route_at (routes.Command row) path = option_map (λ number. routes.Command number) (number_at 10 path)
route_at (routes.View view) path = option_map (λ seen. routes.View seen) (view_at view path)

-- what the path of a route that was found stands for
abbrev pub found_at : List ℕ → Option (RouteOf Route) → Option Route
found_at path None = None
found_at path (Some route) = route_at route.value path

-- what a path stands for
abbrev pub route_of : List ℕ → Option Route
route_of path = found_at path (first desk_routes path)
