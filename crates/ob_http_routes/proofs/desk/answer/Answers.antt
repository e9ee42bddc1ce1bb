use Rattle.ob_http_routes.proofs.desk.answer.Goals as goal

pub returns : goal.returns
returns g c =
    let answered = rw (c.route_of-route.ensures, c.path.ensures, c.deref.ensures.value) at c.answer_route.ensures in
    let served = answered.serves in
    record {
      constant = served.constant;
      unopened = served.unopened;
      faults = served.faults;
      dropped = served.dropped;
      clean = served.clean;
      answered = served.answered;
      tells = served.tells;
      plan = λ asks. answered.plan asks.0 asks.1;
    }
