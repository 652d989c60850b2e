use Rattle.examples_service.proofs.live.register.Goals as goal

pub returns : goal.returns
returns g c = λ ready. c.sites_stay_ready.ensures.made _ _ _ _
    (c.sites_stay_ready.ensures.made _ _ _ _ ready c.in_ok-request.ensures) c.in_ok-told.ensures

pub returns-in_err-request : goal.returns-in_err-request
returns-in_err-request g c = λ ready. c.sites_stay_ready.ensures.made _ _ _ _ ready c.in_err-request.ensures

pub returns-in_err-told : goal.returns-in_err-told
returns-in_err-told g c = λ ready. c.sites_stay_ready.ensures.made _ _ _ _
    (c.sites_stay_ready.ensures.made _ _ _ _ ready c.in_ok-request.ensures) c.in_err-told.ensures
