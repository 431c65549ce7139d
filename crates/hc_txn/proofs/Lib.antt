pub mod AdmissionPlans
