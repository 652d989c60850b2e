use Rattle.span_trace_bench.proofs.shared.register.Goals as goal

pub returns : goal.returns
returns g c = λ ready. c.sites_stay_ready.ensures.made _ _ _ _
    (c.sites_stay_ready.ensures.made _ _ _ _ ready c.in_ok-outer.ensures) c.in_ok-event.ensures

pub returns-in_err-outer : goal.returns-in_err-outer
returns-in_err-outer g c = λ ready. c.sites_stay_ready.ensures.made _ _ _ _ ready c.in_err-outer.ensures

pub returns-in_err-event : goal.returns-in_err-event
returns-in_err-event g c = λ ready. c.sites_stay_ready.ensures.made _ _ _ _
    (c.sites_stay_ready.ensures.made _ _ _ _ ready c.in_ok-outer.ensures) c.in_err-event.ensures
